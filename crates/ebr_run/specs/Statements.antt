-- What statements and blocks do: one line for each statement.
-- Oracle Database PL/SQL Language Reference 19c, PL/SQL Language Elements, by the names of the statements.
use Rattle.std.specs.Prelude.{ℕ, zero, suc, ◌-◌, ℤ, pos, ◌-ℤ◌, ◌+ℤ◌, int_lt, unsigned_abs, Bool, true, false, ◌&&◌, if◌then◌else◌, List, [], ◌∷◌, map, filter_map, length, Option, Some, None}
use Rattle.ebr_base.specs.declared.value.Value.{Value}
use Rattle.ebr_base.specs.declared.value.Value.TheVariants as value
use Rattle.ebr_base.specs.declared.object.ObjectKey.{ObjectKey}
use Rattle.ebr_exprtree.specs.declared.expression.Path.{Path}
use Rattle.ebr_exprtree.specs.declared.expression.RowImage.TheVariants as image
use Rattle.ebr_exprtree.specs.declared.expression.Expr.{Expr, out-Expr}
use Rattle.ebr_exprtree.specs.declared.expression.Addend.{Addend}
use Rattle.ebr_exprtree.specs.declared.expression.Expr.TheOpen.{Expr-F}
use Rattle.ebr_exprtree.specs.declared.expression.Expr.TheOpen as expr
use Rattle.ebr_ast.specs.declared.query.Query.{Query}
use Rattle.ebr_ast.specs.declared.sql.SqlTree.{SqlTree}
use Rattle.ebr_ast.specs.declared.sql.SqlTree.TheVariants as statement
use Rattle.ebr_ast.specs.declared.sql.Transaction.{Transaction}
use Rattle.ebr_ast.specs.declared.sql.Transaction.TheVariants as transaction
use Rattle.ebr_ast.specs.declared.statement.Block.{Block}
use Rattle.ebr_ast.specs.declared.statement.Caught.{Caught}
use Rattle.ebr_ast.specs.declared.statement.Caught.TheVariants as caught_by
use Rattle.ebr_ast.specs.declared.statement.CursorStmt.{CursorStmt}
use Rattle.ebr_ast.specs.declared.statement.CursorStmt.TheVariants as cursor
use Rattle.ebr_ast.specs.declared.statement.Decl.{Decl}
use Rattle.ebr_ast.specs.declared.statement.Decl.TheVariants as decl
use Rattle.ebr_ast.specs.declared.statement.Handler.{Handler}
use Rattle.ebr_ast.specs.declared.statement.Range.{Range}
use Rattle.ebr_ast.specs.declared.statement.Rows.{Rows}
use Rattle.ebr_ast.specs.declared.statement.RowsFrom.{RowsFrom}
use Rattle.ebr_ast.specs.declared.statement.RowsFrom.TheVariants as from
use Rattle.ebr_ast.specs.declared.statement.SqlStmt.{SqlStmt}
use Rattle.ebr_ast.specs.declared.statement.SqlStmt.TheVariants as sql
use Rattle.ebr_ast.specs.declared.statement.Stmt.{Stmt}
use Rattle.ebr_ast.specs.declared.statement.Stmt.TheOpen.{Stmt-F, Block-F, Branch-F, Handler-F}
use Rattle.ebr_ast.specs.declared.statement.Stmt.TheOpen as stmt
use Rattle.ebr_ast.specs.declared.statement.Stmt.TheFolds.{fold-Stmt, fold-Block, fold-Handler}
use Rattle.ebr_ast.specs.declared.statement.Target.{Target}
use Rattle.ebr_ast.specs.declared.statement.Target.TheVariants as target
use Rattle.ebr_ast.specs.declared.unit.Mode.{Mode}
use Rattle.ebr_ast.specs.declared.unit.Mode.TheVariants as mode
use Rattle.ebr_ast.specs.declared.unit.Parameter.{Parameter}
use Rattle.ebr_names.specs.declared.column.ViewColumn.{ViewColumn}
use Rattle.ebr_names.specs.Columns.{column_named}
use Rattle.ebr_value.specs.Texts.{printed}
use Rattle.ebr_expr.specs.Operators.{builtin_at}
use Rattle.ebr_value.specs.declared.form.Builtin.{Builtin}
use Rattle.ebr_sqlcheck.specs.Types.{Known}
use Rattle.ebr_scope.specs.declared.field.Field.{Field}
use Rattle.ebr_scope.specs.Meanings as known
use Rattle.ebr_scope.specs.Meanings.{Word, Fields}
use Rattle.ebr_scope.specs.Declarations as known_type
use Rattle.ebr_fields.specs.Columns.{fields_of}
use Rattle.ebr_asks.specs.declared.ask.Ask.{Ask}
use Rattle.ebr_asks.specs.declared.ask.Ask.TheVariants as ask
use Rattle.ebr_asks.specs.declared.answer.Answer.{Answer}
use Rattle.ebr_asks.specs.declared.answer.Answer.TheVariants as answer
use Rattle.ebr_run.specs.declared.callee.Reference.TheVariants as reference
use Rattle.ebr_run.specs.declared.fault.Fault.{Fault}
use Rattle.ebr_run.specs.declared.place.Bind.{Bind}
use Rattle.ebr_run.specs.declared.place.Bind.TheVariants as bind
use Rattle.ebr_run.specs.declared.place.Location.{Location}
use Rattle.ebr_run.specs.declared.place.Location.TheVariants.{Own}
use Rattle.ebr_run.specs.declared.place.VariableType.{VariableType}
use Rattle.ebr_run.specs.declared.place.VariableType.TheVariants.{Plain}
use Rattle.ebr_run.specs.Faults.{ora, Catches, All, These, is_caught}
use Rattle.ebr_run.specs.Cursors.{Closed, Open, is_open, Fetched, Unopened, NoRow, Unfit, Row, row_fits, fetched}
use Rattle.ebr_run.specs.State.{State, Runs, End, Normal, Exit, Continue, Returned, bare, with_operands, ended, done, raises, broken, then_run, step, loop, counting, caught, finally, line, asked, when_done}
use Rattle.ebr_run.specs.Values.{unfit, known_of, when_fit, is_true, with_variable, assign, cursor_at, with_cursor, moved_on, with_fault, handled_at, new_at, old_at, set_new, affecting}
use Rattle.ebr_run.specs.Scope.{Env, Denoted, Variable, Exception, Cursor, Subprogram, Bound, declared_type, declared_exception, application_error, callee, meant, meant_at, called, applied, raised, column_place, part, within_handler, next_variable, next_cursor, knows, named, with_counter, with_record, known_fields, hands_back, to_checks}
use Rattle.ebr_run.specs.Binds.{bound_query, bound_insert, bound_update, bound_delete}
use Rattle.ebr_run.specs.Expressions.{Calls, Reading, reading_of, referred, located, values, called_with}

-- what a statement does, where it stands
abbrev pub Meaning : Type 0
Meaning = Env → Calls → Runs

-- ---- targets

-- what is assigned to
pub data Place : Type 0 where
  Stored : Location → Option VariableType → Place
  New : ℕ → VariableType → Place
  Nowhere : Place

abbrev pub variable_place : Option Denoted → Place
variable_place (Some (Variable l t)) = Stored l t
variable_place d = Nowhere

abbrev pub new_column : Option ℕ → Option ViewColumn → Place
new_column (Some k) (Some c) = New k (Plain c.ty)
new_column k c = Nowhere

abbrev pub new_place : Env → Word → Place
new_place env c = new_column (column_place env c) (column_named c env.columns)

abbrev pub target_place : Env → Target → Place
target_place env (target.Name path) = variable_place (meant env path)
target_place env (target.New c) = new_place env c

abbrev pub place_type : Place → Known
place_type (Stored l t) = known_of t
place_type (New k t) = known_of (Some t)
place_type Nowhere = None

-- An assignment: the value was computed before, and a packaged target is referred to now.
abbrev pub assigned : Place → Value → Calls → Runs → Runs
assigned (Stored l t) v calls next σ = referred l calls (λ τ. then_run (assign l t v τ) next) σ
assigned (New k t) v calls next σ = then_run (when_fit (unfit (Some t) v) (set_new k v) σ) next
assigned Nowhere v calls next σ = broken σ

-- values to targets, one after the other
abbrev pub all_assigned : List Place → List Value → Calls → Runs → Runs
all_assigned [] [] calls next σ = next σ
all_assigned (p ∷ ps) (v ∷ vs) calls next σ = assigned p v calls (all_assigned ps vs calls next) σ
all_assigned ps vs calls next σ = broken σ

-- ---- calls

-- what an argument hands a value back to
abbrev pub form_place : Env → Expr-F Expr Addend → Place
form_place env (expr.Name path) = variable_place (meant env path)
form_place env (expr.Row image.New c) = new_place env c
form_place env e = Nowhere

abbrev pub argument_place : Env → Expr → Place
argument_place env e = form_place env (out-Expr e)

abbrev pub null_reading : Reading
null_reading env calls next σ = next value.Null σ

-- an OUT parameter begins as NULL
abbrev pub passed : Option Mode → Expr → Reading
passed None e = reading_of e
passed (Some mode.In) e = reading_of e
passed (Some mode.InOut) e = reading_of e
passed (Some mode.Out) e = null_reading

abbrev pub arguments : List Expr → List Parameter → List Reading
arguments (e ∷ es) (p ∷ ps) = passed p.mode e ∷ arguments es ps
arguments (e ∷ es) [] = reading_of e ∷ arguments es []
arguments [] ps = []

abbrev pub outs : Env → List Expr → List Parameter → List Place
outs env (e ∷ es) (p ∷ ps) = if hands_back p then argument_place env e ∷ outs env es ps else outs env es ps
outs env es ps = []

-- A call of a procedure: the values that it gives back are assigned in the order of its parameters.
abbrev pub procedure_called : ObjectKey → ℕ → List Reading → List Place → Meaning
procedure_called key at rs ps env calls σ =
    values rs env calls (λ vs. called_with (callee key at (length rs) (length ps)) vs calls (λ given. all_assigned ps given calls done)) σ

abbrev pub call_of : Option Denoted → List Expr → Meaning
call_of (Some (Subprogram key at h)) es env calls σ = procedure_called key at (arguments es h.parameters) (outs env es h.parameters) env calls σ
call_of d es env calls σ = broken σ

-- a built-in function is no procedure
abbrev pub unless_builtin : Option Builtin → Option Denoted → Option Denoted
unless_builtin (Some f) d = None
unless_builtin None d = d

abbrev pub call : Path → Option (List Expr) → Meaning
call path None env calls σ = call_of (called env path) [] env calls σ
call path (Some es) env calls σ = call_of (unless_builtin (builtin_at path.name path.member) (applied env path)) es env calls σ

-- ---- exceptions

-- an exception of a package refers to it
abbrev pub raise_declared : Option Word → Fault → Calls → Runs
raise_declared None f calls σ = raises f σ
raise_declared (Some p) f calls σ = then_run (calls.refer reference.Other p (bare σ)) (raises f)

abbrev pub raise_of : Option Denoted → Calls → Runs
raise_of (Some (Exception p f)) calls σ = raise_declared p f calls σ
raise_of d calls σ = broken σ

-- RAISE without a name raises what the innermost handler around it handles.
abbrev pub reraise : ℕ → Runs
reraise zero σ = broken σ
reraise (suc n) σ = handled_at n raises σ

abbrev pub raise : Option Path → Meaning
raise None env calls σ = reraise env.handlers σ
raise (Some path) env calls σ = raise_of (raised env path) calls σ

abbrev pub fault_in : Option Denoted → Option Fault
fault_in (Some (Exception p f)) = Some f
fault_in d = None

abbrev pub exception_named : Env → Path → Option Fault
exception_named env path = fault_in (raised env path)

abbrev pub catches : Env → Caught → Catches
catches env caught_by.Others = All
catches env (caught_by.Named paths) = These (filter_map (exception_named env) paths)

-- ---- statements of SQL

abbrev pub bind_reading : Bind → Reading
bind_reading (bind.Variable l) env calls next σ = located l calls next σ
bind_reading (bind.New k) env calls next σ = new_at k next σ
bind_reading (bind.Old k) env calls next σ = old_at k next σ

-- a statement with the values of its binds, and what is done with the answer
abbrev pub requested : SqlTree → List Bind → Env → Calls → (Answer → Runs) → Runs
requested s bs env calls k σ = values (map bind_reading bs) env calls (λ vs τ. asked (ask.Sql s vs (τ.left - τ.steps)) (bare τ) k) σ

-- the one row of SELECT INTO: ORA-01403 without a row, ORA-01422 with several, and ORA-00932 where it doesn't fit the targets
abbrev pub only_row : List Known → List (List Value) → (List Value → Runs) → Runs
only_row ts [] k σ = raises (ora 1403) σ
only_row ts (row ∷ []) k σ = if row_fits ts row then k row σ else raises (ora 932) σ
only_row ts (row ∷ other ∷ rows) k σ = raises (ora 1422) σ

abbrev pub selected : List Known → (List Value → Runs) → Answer → Runs
selected ts k (answer.Rows rows) σ = only_row ts rows k σ
selected ts k a σ = broken σ

abbrev pub affects : ℕ → Runs
affects n σ = done (affecting n σ)

abbrev pub changed : Answer → Runs
changed (answer.Count n steps ls) σ = affects n σ
changed a σ = broken σ

abbrev pub select_into : Bound Query → List Place → Meaning
select_into q ps env calls σ =
    requested (statement.Query q.tree) q.binds env calls (selected (map place_type ps) (λ row. all_assigned ps row calls (affects 1))) σ

abbrev pub transact : Transaction → Ask
transact transaction.Commit = ask.Commit
transact transaction.Rollback = ask.Rollback
transact (transaction.RollbackTo n) = ask.BackTo n
transact (transaction.Savepoint n) = ask.Savepoint n

abbrev pub sql_statement : SqlStmt → Meaning
sql_statement (sql.SelectInto q ts) env calls σ = select_into (bound_query env q) (map (target_place env) ts) env calls σ
sql_statement (sql.Insert i) env calls σ = let b = bound_insert env i in requested (statement.Insert b.tree) b.binds env calls changed σ
sql_statement (sql.Update u) env calls σ = let b = bound_update env u in requested (statement.Update b.tree) b.binds env calls changed σ
sql_statement (sql.Delete d) env calls σ = let b = bound_delete env d in requested (statement.Delete b.tree) b.binds env calls changed σ
sql_statement (sql.Transaction t) env calls σ = asked (transact t) (bare σ) (λ a. when_done a done)

-- ---- cursors

abbrev pub opened : Location → Runs → Answer → Runs
opened l k (answer.Rows rows) σ = k (with_cursor l (Open rows 0 None) σ)
opened l k a σ = broken σ

-- OPEN: ORA-06511 where it is open
abbrev pub open_at : Location → Bound Query → Env → Calls → Runs → Runs
open_at l q env calls k σ =
    referred l calls (λ τ. if is_open (cursor_at l τ) then raises (ora 6511) τ else requested (statement.Query q.tree) q.binds env calls (opened l k) τ) σ

-- a row, or what is done where there is none; ORA-01001 where the cursor isn't open
abbrev pub on_row : Fetched → (List Value → Runs) → Runs → Runs
on_row Unopened k none σ = raises (ora 1001) σ
on_row NoRow k none σ = none σ
on_row Unfit k none σ = raises (ora 932) σ
on_row (Row vs) k none σ = k vs σ

-- The cursor moves on also where the row doesn't fit.
abbrev pub fetch_at : Location → List Known → Calls → (List Value → Runs) → Runs → Runs
fetch_at l ts calls k none σ = referred l calls (λ τ. on_row (fetched ts (cursor_at l τ)) k none (moved_on l τ)) σ

abbrev pub close_at : Location → Calls → Runs
close_at l calls σ = referred l calls (λ τ. if is_open (cursor_at l τ) then done (with_cursor l Closed τ) else raises (ora 1001) τ) σ

abbrev pub open_of : Option Denoted → Meaning
open_of (Some (Cursor l q fs)) env calls σ = open_at l q env calls done σ
open_of d env calls σ = broken σ

abbrev pub fetch_of : Option Denoted → List Place → Calls → Runs
fetch_of (Some (Cursor l q fs)) ps calls σ = fetch_at l (map place_type ps) calls (λ vs. all_assigned ps vs calls done) done σ
fetch_of d ps calls σ = broken σ

abbrev pub close_of : Option Denoted → Calls → Runs
close_of (Some (Cursor l q fs)) calls σ = close_at l calls σ
close_of d calls σ = broken σ

abbrev pub cursor_statement : CursorStmt → Meaning
cursor_statement (cursor.Open c) env calls σ = open_of (meant_at env c None) env calls σ
cursor_statement (cursor.Fetch c ts) env calls σ = fetch_of (meant_at env c None) (map (target_place env) ts) calls σ
cursor_statement (cursor.Close c) env calls σ = close_of (meant_at env c None) calls σ

-- ---- lists of statements

-- Each statement begins with a step. The first one is the part at a place.
abbrev pub run_all : ℕ → List Meaning → Meaning
run_all i [] env calls σ = ended Normal σ
run_all i (m ∷ ms) env calls σ = then_run (step σ (m (part i env) calls)) (run_all (suc i) ms env calls)

-- ---- IF and loops

abbrev pub condition : Expr → Env → Calls → Runs → Runs → Runs
condition e env calls holds fails σ = reading_of e env calls (λ v τ. if is_true v then holds (bare τ) else fails (bare τ)) σ

-- IF: the statements of the first branch whose condition is true, and else those behind ELSE
abbrev pub choose : ℕ → List (Expr × Meaning) → Meaning → Meaning
choose i [] otherwise env calls σ = otherwise (part 0 env) calls σ
choose i (b ∷ bs) otherwise env calls σ = condition b.0 env calls (b.1 (part (suc i) env) calls) (choose (suc i) bs otherwise env calls) σ

-- EXIT and CONTINUE
abbrev pub leave : End → Option Expr → Meaning
leave e None env calls σ = ended e (bare σ)
leave e (Some c) env calls σ = condition c env calls (ended e) done σ

abbrev pub exits : Runs
exits σ = ended Exit (bare σ)

abbrev pub while_true : Expr → Meaning
while_true e env calls σ = condition e env calls done exits σ

-- the number of the turn behind which so many come
abbrev pub number_of_turn : Bool → ℤ → ℤ → ℕ → ℤ
number_of_turn false low high n = high -ℤ pos n
number_of_turn true low high n = low +ℤ pos n

-- one turn, with its number in the loop's variable
abbrev pub in_turn : ℕ → Bool → ℤ → ℤ → Runs → ℕ → Runs
in_turn k reversed low high body n σ = body (with_variable k (value.Num (number_of_turn reversed low high n)) σ)

abbrev pub between : ℕ → Bool → ℤ → ℤ → Runs → Runs
between k reversed low high body σ =
    if int_lt high low then done σ else counting (suc (unsigned_abs (high -ℤ low))) (in_turn k reversed low high body) σ

abbrev pub is_number_or_null : Value → Bool
is_number_or_null (value.Num n) = true
is_number_or_null value.Null = true
is_number_or_null v = false

-- What bounds raise that aren't two numbers: ORA-00932 where one is of another type, whatever the other one is, and else ORA-06502,
-- since one is NULL.
abbrev pub wrong_bounds : Value → Value → ℕ
wrong_bounds low high = if is_number_or_null low && is_number_or_null high then 6502 else 932

abbrev pub over_numbers : ℕ → Bool → Value → Value → Runs → Runs
over_numbers k reversed (value.Num low) (value.Num high) body σ = between k reversed low high body σ
over_numbers k reversed low high body σ = raises (ora (wrong_bounds low high)) σ

abbrev pub for_range : Range → Meaning → Meaning
for_range r body env calls σ =
    reading_of r.low env calls (λ low τ. reading_of r.high env calls
    (λ high υ. over_numbers env.variables r.reversed low high (body (with_counter r.name env) calls) (bare υ)) τ) σ

-- ---- loops over rows

-- where the rows come from: the cursor's place, whether the loop declares it, its query, and the fields of the record
pub record Source : Type 0 where
  pub location : Location
  pub own : Bool
  pub query : Bound Query
  pub fields : Fields

abbrev pub cursor_source : Option Denoted → Option Source
cursor_source (Some (Cursor l q fs)) = Some (record { location = l; own = false; query = q; fields = fs })
cursor_source d = None

-- a query has a cursor of its own
abbrev pub source_of : RowsFrom → Env → Option Source
source_of (from.Cursor c) env = cursor_source (meant_at env c None)
source_of (from.Query q) env = Some (record { location = Own env.cursors; own = true; query = bound_query env q; fields = fields_of (to_checks env) q })

abbrev pub field_type : Field → Known
field_type f = f.ty

-- the fields, which are the variables from a place on
abbrev pub with_fields : ℕ → List Value → State → State
with_fields k [] σ = σ
with_fields k (v ∷ vs) σ = with_fields (suc k) vs (with_variable k v σ)

-- A cursor that the loop declares is closed at first, as a declared one is, whatever was at its place.
abbrev pub declared_by : Source → State → State
declared_by s σ = if s.own then with_cursor s.location Closed σ else σ

-- The cursor is closed at the end, however the loop is left, and also where the body closed it.
abbrev pub over_rows : Source → Meaning → Env → Calls → Runs
over_rows s body env calls σ =
    open_at s.location s.query env calls
    (λ τ. finally
    (loop (fetch_at s.location (map field_type (known_fields s.fields)) calls (λ vs υ. done (with_fields env.variables vs υ)) exits) (body env calls) τ)
    (with_cursor s.location Closed)) (declared_by s σ)

-- the body of a loop over rows, inside its record and its cursor
abbrev pub in_rows : Word → Source → Env → Env
in_rows n s env = record (with_record n s.fields env) { cursors = suc env.cursors }

abbrev pub for_rows_of : Option Source → Rows → Meaning → Meaning
for_rows_of None r body env calls σ = broken σ
for_rows_of (Some s) r body env calls σ = over_rows s (λ e. body (in_rows r.record s e)) env calls σ

-- ---- statements

-- PUT_LINE
abbrev pub put_line : Expr → Meaning
put_line e env calls σ = reading_of e env calls (λ v. line (printed v)) σ

abbrev pub result_given : Option VariableType → Value → Runs
result_given t v σ = when_fit (unfit t v) (λ τ. ended Returned (with_operands (v ∷ []) τ)) σ

-- RETURN
abbrev pub give : Option Expr → Meaning
give None env calls σ = ended Returned (bare σ)
give (Some e) env calls σ = reading_of e env calls (result_given env.result) σ

-- A handler: what it catches, and its statements.
pub record Handling : Type 0 where
  pub caught : Caught
  pub run : Meaning

abbrev pub act : Stmt-F Meaning Meaning (Expr × Meaning) Handling → Meaning
act stmt.Null env calls σ = done σ
act (stmt.Assign t e) env calls σ = reading_of e env calls (λ v. assigned (target_place env t) v calls done) σ
act (stmt.Block b) env calls σ = b env calls σ
act (stmt.Return e) env calls σ = give e env calls σ
act (stmt.Raise path) env calls σ = raise path env calls σ
act (stmt.If bs a) env calls σ = choose 0 bs (run_all 0 a) env calls σ
act (stmt.Loop a) env calls σ = loop done (run_all 0 a env calls) σ
act (stmt.While e a) env calls σ = loop (while_true e env calls) (run_all 0 a env calls) σ
act (stmt.ForRange r a) env calls σ = for_range r (run_all 0 a) env calls σ
act (stmt.ForRows r a) env calls σ = for_rows_of (source_of r.from env) r (run_all 0 a) env calls σ
act (stmt.Exit e) env calls σ = leave Exit e env calls σ
act (stmt.Continue e) env calls σ = leave Continue e env calls σ
act (stmt.Call path es) env calls σ = call path es env calls σ
act (stmt.Sql s) env calls σ = sql_statement s env calls σ
act (stmt.Cursor c) env calls σ = cursor_statement c env calls σ
act (stmt.PutLine e) env calls σ = put_line e env calls σ
act (stmt.RaiseApplicationError k e) env calls σ = reading_of e env calls (λ text. raises (application_error k)) σ

-- ---- declarations

-- the names that are known behind a declaration, which stands among others
abbrev pub with_decl : List Decl → Decl → Env → Env
with_decl ds (decl.Variable n c t e) env =
    record (knows (named n (known_type.variable c (known_type.declared_type env.view t)) (Variable (next_variable env) (Some (declared_type env.view t)))) env)
    { variables = suc env.variables }
with_decl ds (decl.Exception n) env = knows (named n known.Exception (Exception env.owner (declared_exception env.unit env.path n ds))) env
with_decl ds (decl.Cursor n q) env =
    record (knows (record { entry = known.with_fields n known.Cursor (fields_of (to_checks env) q); denoted = Cursor (next_cursor env) (bound_query env q) (fields_of (to_checks env) q) }) env)
    { cursors = suc env.cursors }
with_decl ds (decl.ExceptionInit n k) env = env
with_decl ds decl.Autonomous env = env

abbrev pub with_decls_among : List Decl → List Decl → Env → Env
with_decls_among all [] env = env
with_decls_among all (d ∷ ds) env = with_decls_among all ds (with_decl all d env)

-- behind all declarations of a list
abbrev pub with_decls : List Decl → Env → Env
with_decls ds env = with_decls_among ds ds env

abbrev pub initial : Option Expr → Reading
initial None = null_reading
initial (Some e) = reading_of e

-- What a declaration does, and then what is behind it: a variable has its first value, and a cursor is closed.
abbrev pub declare : Decl → Env → Calls → Runs → Runs
declare (decl.Variable n c t e) env calls next σ =
    initial e env calls (λ v τ. then_run (assign (next_variable env) (Some (declared_type env.view t)) v τ) next) σ
declare (decl.Cursor n q) env calls next σ = next (bare (with_cursor (next_cursor env) Closed σ))
declare (decl.Exception n) env calls next σ = next σ
declare (decl.ExceptionInit n k) env calls next σ = next σ
declare decl.Autonomous env calls next σ = next σ

abbrev pub declare_among : List Decl → List Decl → Env → Calls → Runs → Runs
declare_among all [] env calls next σ = next σ
declare_among all (d ∷ ds) env calls next σ = declare d env calls (declare_among all ds (with_decl all d env) calls next) σ

-- one declaration after the other, and then what is behind them
abbrev pub declare_all : List Decl → Env → Calls → Runs → Runs
declare_all ds env calls next σ = declare_among ds ds env calls next σ

-- ---- blocks

-- in a handler, with what it handles
abbrev pub handling : Env → Fault → State → State
handling env f σ = with_fault env.handlers f (bare σ)

-- The first handler that catches what was raised; where none does, the block is left by it.
abbrev pub handled : ℕ → List Handling → Env → Calls → Fault → Runs
handled i [] env calls f σ = raises f σ
handled i (h ∷ hs) env calls f σ =
    if is_caught (catches env h.caught) f then h.run (within_handler (part (suc i) env)) calls (handling env f σ) else handled (suc i) hs env calls f σ

-- statements with their handlers
abbrev pub guarded : List Meaning → List Handling → Meaning
guarded ms hs env calls σ = caught (run_all 0 ms (part 0 env) calls σ) (handled 0 hs env calls)

-- An exception in a declaration goes to the enclosing block.
abbrev pub in_block : Block-F Meaning Meaning (Expr × Meaning) Handling → Meaning
in_block b env calls σ = declare_all b.declarations env calls (guarded b.statements b.handlers (with_decls b.declarations env) calls) σ

abbrev pub branch : Branch-F Meaning Meaning (Expr × Meaning) Handling → Expr × Meaning
branch b = (b.condition, run_all 0 b.statements)

abbrev pub handler : Handler-F Meaning Meaning (Expr × Meaning) Handling → Handling
handler h = record { caught = h.caught; run = run_all 0 h.statements }

unfoldable pub meaning_of : Stmt → Meaning
meaning_of = fold-Stmt Meaning Meaning (Expr × Meaning) Handling act in_block branch handler

unfoldable pub block_meaning : Block → Meaning
block_meaning = fold-Block Meaning Meaning (Expr × Meaning) Handling act in_block branch handler

unfoldable pub handling_of : Handler → Handling
handling_of = fold-Handler Meaning Meaning (Expr × Meaning) Handling act in_block branch handler
