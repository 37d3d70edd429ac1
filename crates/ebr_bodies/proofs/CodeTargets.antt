-- Assignments, calls of procedures, exceptions and statements of SQL ask what code may ask.
use Rattle.std.proofs.Common.{ℕ, zero, suc, ◌-◌, List, [], ◌∷◌, length, map, Option, Some, None}
use Rattle.std.specs.Prelude.{if◌then◌else◌}
use Rattle.std.specs.List.{AllByRecursion}
use Rattle.ebr_base.specs.declared.object.ObjectKey.{ObjectKey}
use Rattle.ebr_base.specs.declared.value.Value.{Value}
use Rattle.ebr_base.specs.declared.value.Value.TheVariants as value
use Rattle.ebr_exprtree.specs.declared.expression.Path.{Path}
use Rattle.ebr_exprtree.specs.declared.expression.Expr.{Expr}
use Rattle.ebr_ast.specs.declared.query.Query.{Query}
use Rattle.ebr_ast.specs.declared.sql.SqlTree.{SqlTree}
use Rattle.ebr_ast.specs.declared.sql.SqlTree.TheVariants as statement
use Rattle.ebr_ast.specs.declared.sql.Transaction.{Transaction}
use Rattle.ebr_ast.specs.declared.sql.Transaction.TheVariants as transaction
use Rattle.ebr_ast.specs.declared.statement.CursorStmt.{CursorStmt}
use Rattle.ebr_ast.specs.declared.statement.CursorStmt.TheVariants as cursor
use Rattle.ebr_ast.specs.declared.statement.SqlStmt.{SqlStmt}
use Rattle.ebr_ast.specs.declared.statement.SqlStmt.TheVariants as sql
use Rattle.ebr_ast.specs.declared.unit.Mode.{Mode}
use Rattle.ebr_ast.specs.declared.unit.Mode.TheVariants as mode
use Rattle.ebr_ast.specs.declared.unit.Parameter.{Parameter}
use Rattle.ebr_expr.specs.Operators.{builtin_at}
use Rattle.ebr_sqlcheck.specs.Types.{Known}
use Rattle.ebr_scope.specs.Meanings.{Word}
use Rattle.ebr_asks.specs.declared.ask.Ask.TheVariants as ask
use Rattle.ebr_asks.specs.declared.answer.Answer.{Answer}
use Rattle.ebr_asks.specs.declared.answer.Answer.TheVariants as answer
use Rattle.ebr_run.specs.declared.callee.Reference.TheVariants as reference
use Rattle.ebr_run.specs.declared.fault.Fault.{Fault}
use Rattle.ebr_run.specs.declared.place.Bind.{Bind}
use Rattle.ebr_run.specs.declared.place.Bind.TheVariants as bind
use Rattle.ebr_run.specs.declared.place.Location.{Location}
use Rattle.ebr_run.specs.Faults.{ora}
use Rattle.ebr_run.specs.Cursors.{Closed, Open, is_open, Fetched, Unopened, NoRow, Unfit, Row, row_fits, fetched}
use Rattle.ebr_run.specs.State.{Runs, bare, done, raises, then_run, asked, when_done}
use Rattle.ebr_run.specs.Values.{unfit, when_fit, assign, cursor_at, with_cursor, moved_on, set_new}
use Rattle.ebr_run.specs.Scope.{Env, Denoted, Variable, Exception, Cursor, Record, Subprogram, Bound, callee, meant_at, called, applied, raised}
use Rattle.ebr_run.specs.Binds.{bound_query, bound_insert, bound_update, bound_delete}
use Rattle.ebr_run.specs.Expressions.{Calls, Reading, called_with}
use Rattle.ebr_run.specs.Statements.{Meaning, Place, Stored, New, Nowhere, target_place, place_type, assigned, all_assigned, null_reading, passed, arguments, outs, procedure_called, call_of, unless_builtin, call, raise_declared, raise_of, reraise, raise, bind_reading, requested, only_row, selected, affects, changed, select_into, transact, sql_statement, opened, open_at, on_row, fetch_at, close_at, open_of, fetch_of, close_of, cursor_statement}
use Rattle.ebr_bodies.proofs.OfCode.{IsOfCode}
use Rattle.ebr_bodies.proofs.CodeStates.{Keeps, AnswersKeep, if_keeps, then_run_keeps, asked_keeps, when_done_keeps}
use Rattle.ebr_bodies.proofs.CodeValues.{when_fit_keeps, assign_keeps, with_cursor_keep, moved_on_keep, handled_at_keeps, new_at_keeps, old_at_keeps, set_new_keeps}
use Rattle.ebr_bodies.proofs.CodeOperators.{CallsKeep, ReadingKeeps, ListsKeep, referred_keeps, located_keeps, values_keeps, called_with_keeps}
use Rattle.ebr_bodies.proofs.CodeExpressions.{reading_keeps}

abbrev pub MeaningKeeps : Meaning → Type 0
MeaningKeeps m = (env : Env) (calls : Calls) → CallsKeep calls → Keeps (m env calls)

-- ---- targets

pub assigned_keeps : (p : Place) (v : Value) (calls : Calls) → CallsKeep calls → (next : Runs) → Keeps next → Keeps (assigned p v calls next)
assigned_keeps (Stored l t) v calls kc next n σ h = referred_keeps l calls kc (λ τ. then_run (assign l t v τ) next) (λ τ k. then_run_keeps (assign l t v τ) next (assign_keeps l t v τ k) n) σ h
assigned_keeps (New k t) v calls kc next n σ h = then_run_keeps (when_fit (unfit (Some t) v) (set_new k v) σ) next (when_fit_keeps (unfit (Some t) v) (set_new k v) (set_new_keeps k v) σ h) n
assigned_keeps Nowhere v calls kc next n σ h = h

pub all_assigned_keeps : (ps : List Place) (vs : List Value) (calls : Calls) → CallsKeep calls → (next : Runs) → Keeps next → Keeps (all_assigned ps vs calls next)
all_assigned_keeps [] [] calls kc next n σ h = n σ h
all_assigned_keeps (p ∷ ps) (v ∷ vs) calls kc next n σ h = assigned_keeps p v calls kc (all_assigned ps vs calls next) (all_assigned_keeps ps vs calls kc next n) σ h
all_assigned_keeps [] (v ∷ vs) calls kc next n σ h = h
all_assigned_keeps (p ∷ ps) [] calls kc next n σ h = h

-- ---- calls

pub null_keeps : ReadingKeeps null_reading
null_keeps env calls kc next n σ h = n value.Null σ h

passed_keeps : (m : Option Mode) (e : Expr) → ReadingKeeps (passed m e)
passed_keeps None e = reading_keeps e
passed_keeps (Some mode.In) e = reading_keeps e
passed_keeps (Some mode.InOut) e = reading_keeps e
passed_keeps (Some mode.Out) e = null_keeps

arguments_keep : (es : List Expr) (ps : List Parameter) → AllByRecursion ReadingKeeps (arguments es ps)
arguments_keep (e ∷ es) (p ∷ ps) = (passed_keeps p.mode e, arguments_keep es ps)
arguments_keep (e ∷ es) [] = (reading_keeps e, arguments_keep es [])
arguments_keep [] ps = tt

procedure_called_keeps : (key : ObjectKey) (at : ℕ) (rs : List Reading) → AllByRecursion ReadingKeeps rs → (ps : List Place) → MeaningKeeps (procedure_called key at rs ps)
procedure_called_keeps key at rs rk ps env calls kc σ h =
    let f = callee key at (length rs) (length ps) in
    values_keeps rs rk env calls kc (λ vs. called_with f vs calls (λ given. all_assigned ps given calls done))
    (λ vs. called_with_keeps f vs calls kc (λ given. all_assigned ps given calls done) (λ given. all_assigned_keeps ps given calls kc done (λ τ k. k))) σ h

call_of_keeps : (d : Option Denoted) (es : List Expr) → MeaningKeeps (call_of d es)
call_of_keeps (Some (Subprogram key at x)) es env calls kc σ h = procedure_called_keeps key at (arguments es x.parameters) (arguments_keep es x.parameters) (outs env es x.parameters) env calls kc σ h
call_of_keeps (Some (Variable l t)) es env calls kc σ h = h
call_of_keeps (Some (Exception p f)) es env calls kc σ h = h
call_of_keeps (Some (Cursor l q fs)) es env calls kc σ h = h
call_of_keeps (Some (Record ps)) es env calls kc σ h = h
call_of_keeps None es env calls kc σ h = h

pub call_keeps : (path : Path) (es : Option (List Expr)) → MeaningKeeps (call path es)
call_keeps path None env calls kc σ h = call_of_keeps (called env path) [] env calls kc σ h
call_keeps path (Some es) env calls kc σ h = call_of_keeps (unless_builtin (builtin_at path.name path.member) (applied env path)) es env calls kc σ h

-- ---- exceptions

raise_declared_keeps : (p : Option Word) (f : Fault) (calls : Calls) → CallsKeep calls → Keeps (raise_declared p f calls)
raise_declared_keeps None f calls kc σ h = h
raise_declared_keeps (Some p) f calls kc σ h = then_run_keeps (calls.refer reference.Other p (bare σ)) (raises f) (kc.refer reference.Other p (bare σ) h) (λ τ k. k)

raise_of_keeps : (d : Option Denoted) (calls : Calls) → CallsKeep calls → Keeps (raise_of d calls)
raise_of_keeps (Some (Exception p f)) calls kc σ h = raise_declared_keeps p f calls kc σ h
raise_of_keeps (Some (Variable l t)) calls kc σ h = h
raise_of_keeps (Some (Cursor l q fs)) calls kc σ h = h
raise_of_keeps (Some (Record ps)) calls kc σ h = h
raise_of_keeps (Some (Subprogram key at x)) calls kc σ h = h
raise_of_keeps None calls kc σ h = h

reraise_keeps : (k : ℕ) → Keeps (reraise k)
reraise_keeps zero σ h = h
reraise_keeps (suc k) σ h = handled_at_keeps k raises (λ f τ l. l) σ h

pub raise_keeps : (path : Option Path) → MeaningKeeps (raise path)
raise_keeps None env calls kc σ h = reraise_keeps env.handlers σ h
raise_keeps (Some path) env calls kc σ h = raise_of_keeps (raised env path) calls kc σ h

-- ---- statements of SQL

bind_keeps : (b : Bind) → ReadingKeeps (bind_reading b)
bind_keeps (bind.Variable l) env calls kc next n σ h = located_keeps l calls kc next n σ h
bind_keeps (bind.New k) env calls kc next n σ h = new_at_keeps k next n σ h
bind_keeps (bind.Old k) env calls kc next n σ h = old_at_keeps k next n σ h

binds_keep : (bs : List Bind) → AllByRecursion ReadingKeeps (map bind_reading bs)
binds_keep [] = tt
binds_keep (b ∷ bs) = (bind_keeps b, binds_keep bs)

-- no APPLY TRIGGER
abbrev IsPlain : SqlTree → Type 0
IsPlain s = (binds : List Value) (left : ℕ) → IsOfCode (ask.Sql s binds left)

requested_keeps : (s : SqlTree) → IsPlain s → (bs : List Bind) (env : Env) (calls : Calls) → CallsKeep calls → (k : Answer → Runs) → AnswersKeep k → Keeps (requested s bs env calls k)
requested_keeps s own bs env calls kc k c σ h =
    values_keeps (map bind_reading bs) (binds_keep bs) env calls kc (λ vs τ. asked (ask.Sql s vs (τ.left - τ.steps)) (bare τ) k)
    (λ vs τ l. asked_keeps (ask.Sql s vs (τ.left - τ.steps)) (bare τ) k (own vs (τ.left - τ.steps)) l c) σ h

only_row_keeps : (ts : List Known) (rows : List (List Value)) (k : List Value → Runs) → ListsKeep k → Keeps (only_row ts rows k)
only_row_keeps ts [] k c σ h = h
only_row_keeps ts (row ∷ []) k c σ h = if_keeps (row_fits ts row) (k row σ) (raises (ora 932) σ) (c row σ h) h
only_row_keeps ts (row ∷ other ∷ rows) k c σ h = h

selected_keeps : (ts : List Known) (k : List Value → Runs) → ListsKeep k → AnswersKeep (selected ts k)
selected_keeps ts k c (answer.Rows rows) σ h = only_row_keeps ts rows k c σ h
selected_keeps ts k c a σ h = h

changed_keeps : AnswersKeep changed
changed_keeps (answer.Count n steps ls) σ h = h
changed_keeps a σ h = h

select_into_keeps : (q : Bound Query) (ps : List Place) → MeaningKeeps (select_into q ps)
select_into_keeps q ps env calls kc σ h =
    requested_keeps (statement.Query q.tree) (λ vs l. tt) q.binds env calls kc (selected (map place_type ps) (λ row. all_assigned ps row calls (affects 1)))
    (selected_keeps (map place_type ps) (λ row. all_assigned ps row calls (affects 1)) (λ row. all_assigned_keeps ps row calls kc (affects 1) (λ τ k. k))) σ h

transact_own : (t : Transaction) → IsOfCode (transact t)
transact_own transaction.Commit = tt
transact_own transaction.Rollback = tt
transact_own (transaction.RollbackTo name) = tt
transact_own (transaction.Savepoint name) = tt

pub sql_keeps : (s : SqlStmt) → MeaningKeeps (sql_statement s)
sql_keeps (sql.SelectInto q ts) env calls kc σ h = select_into_keeps (bound_query env q) (map (target_place env) ts) env calls kc σ h
sql_keeps (sql.Insert i) env calls kc σ h = requested_keeps (statement.Insert (bound_insert env i).tree) (λ vs l. tt) (bound_insert env i).binds env calls kc changed changed_keeps σ h
sql_keeps (sql.Update u) env calls kc σ h = requested_keeps (statement.Update (bound_update env u).tree) (λ vs l. tt) (bound_update env u).binds env calls kc changed changed_keeps σ h
sql_keeps (sql.Delete d) env calls kc σ h = requested_keeps (statement.Delete (bound_delete env d).tree) (λ vs l. tt) (bound_delete env d).binds env calls kc changed changed_keeps σ h
sql_keeps (sql.Transaction t) env calls kc σ h = asked_keeps (transact t) (bare σ) (λ a. when_done a done) (transact_own t) h (λ a. when_done_keeps a done (λ τ k. k))

-- ---- cursors

opened_keeps : (l : Location) (k : Runs) → Keeps k → AnswersKeep (opened l k)
opened_keeps l k c (answer.Rows rows) σ h = c (with_cursor l (Open rows 0 None) σ) (with_cursor_keep l (Open rows 0 None) σ h)
opened_keeps l k c a σ h = h

pub open_at_keeps : (l : Location) (q : Bound Query) (env : Env) (calls : Calls) → CallsKeep calls → (k : Runs) → Keeps k → Keeps (open_at l q env calls k)
open_at_keeps l q env calls kc k c σ h =
    referred_keeps l calls kc (λ τ. if is_open (cursor_at l τ) then raises (ora 6511) τ else requested (statement.Query q.tree) q.binds env calls (opened l k) τ)
    (λ τ g. if_keeps (is_open (cursor_at l τ)) (raises (ora 6511) τ) (requested (statement.Query q.tree) q.binds env calls (opened l k) τ) g
    (requested_keeps (statement.Query q.tree) (λ vs x. tt) q.binds env calls kc (opened l k) (opened_keeps l k c) τ g)) σ h

on_row_keeps : (f : Fetched) (k : List Value → Runs) (none : Runs) → ListsKeep k → Keeps none → Keeps (on_row f k none)
on_row_keeps Unopened k none c d σ h = h
on_row_keeps NoRow k none c d σ h = d σ h
on_row_keeps Unfit k none c d σ h = h
on_row_keeps (Row vs) k none c d σ h = c vs σ h

pub fetch_at_keeps : (l : Location) (ts : List Known) (calls : Calls) → CallsKeep calls → (k : List Value → Runs) (none : Runs) → ListsKeep k → Keeps none → Keeps (fetch_at l ts calls k none)
fetch_at_keeps l ts calls kc k none c d σ h =
    referred_keeps l calls kc (λ τ. on_row (fetched ts (cursor_at l τ)) k none (moved_on l τ)) (λ τ g. on_row_keeps (fetched ts (cursor_at l τ)) k none c d (moved_on l τ) (moved_on_keep l τ g)) σ h

close_at_keeps : (l : Location) (calls : Calls) → CallsKeep calls → Keeps (close_at l calls)
close_at_keeps l calls kc σ h =
    referred_keeps l calls kc (λ τ. if is_open (cursor_at l τ) then done (with_cursor l Closed τ) else raises (ora 1001) τ)
    (λ τ g. if_keeps (is_open (cursor_at l τ)) (done (with_cursor l Closed τ)) (raises (ora 1001) τ) (with_cursor_keep l Closed τ g) g) σ h

open_of_keeps : (d : Option Denoted) → MeaningKeeps (open_of d)
open_of_keeps (Some (Cursor l q fs)) env calls kc σ h = open_at_keeps l q env calls kc done (λ τ k. k) σ h
open_of_keeps (Some (Variable l t)) env calls kc σ h = h
open_of_keeps (Some (Exception p f)) env calls kc σ h = h
open_of_keeps (Some (Record ps)) env calls kc σ h = h
open_of_keeps (Some (Subprogram key at x)) env calls kc σ h = h
open_of_keeps None env calls kc σ h = h

fetch_of_keeps : (d : Option Denoted) (ps : List Place) (calls : Calls) → CallsKeep calls → Keeps (fetch_of d ps calls)
fetch_of_keeps (Some (Cursor l q fs)) ps calls kc σ h = fetch_at_keeps l (map place_type ps) calls kc (λ vs. all_assigned ps vs calls done) done (λ vs. all_assigned_keeps ps vs calls kc done (λ τ k. k)) (λ τ k. k) σ h
fetch_of_keeps (Some (Variable l t)) ps calls kc σ h = h
fetch_of_keeps (Some (Exception p f)) ps calls kc σ h = h
fetch_of_keeps (Some (Record qs)) ps calls kc σ h = h
fetch_of_keeps (Some (Subprogram key at x)) ps calls kc σ h = h
fetch_of_keeps None ps calls kc σ h = h

close_of_keeps : (d : Option Denoted) (calls : Calls) → CallsKeep calls → Keeps (close_of d calls)
close_of_keeps (Some (Cursor l q fs)) calls kc σ h = close_at_keeps l calls kc σ h
close_of_keeps (Some (Variable l t)) calls kc σ h = h
close_of_keeps (Some (Exception p f)) calls kc σ h = h
close_of_keeps (Some (Record ps)) calls kc σ h = h
close_of_keeps (Some (Subprogram key at x)) calls kc σ h = h
close_of_keeps None calls kc σ h = h

pub cursor_keeps : (c : CursorStmt) → MeaningKeeps (cursor_statement c)
cursor_keeps (cursor.Open c) env calls kc σ h = open_of_keeps (meant_at env c None) env calls kc σ h
cursor_keeps (cursor.Fetch c ts) env calls kc σ h = fetch_of_keeps (meant_at env c None) (map (target_place env) ts) calls kc σ h
cursor_keeps (cursor.Close c) env calls kc σ h = close_of_keeps (meant_at env c None) calls kc σ h
