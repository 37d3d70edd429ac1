-- Statements of SQL, and cursors.
use Rattle.std.proofs.Common.{◌≡◌, suc, Bool, true, false, if◌then◌else◌, List, [], ◌∷◌, ◌++◌, map, length, Option, Some, None, refl, sym, ap, ◌∙◌, append_assoc, append-nil}
use Rattle.std.specs.Prelude.{nat_lt, ◌-◌, ◌+◌}
use Rattle.std.proofs.lemmas.List.{length-map}
use Rattle.ebr_base.specs.declared.code.Code.{Code}
use Rattle.ebr_base.specs.declared.code.Code.TheVariants.{Ebr}
use Rattle.ebr_base.specs.declared.value.Value.{Value}
use Rattle.ebr_ast.specs.declared.sql.SqlTree.{SqlTree}
use Rattle.ebr_ast.specs.declared.sql.SqlTree.TheVariants as statement
use Rattle.ebr_ast.specs.declared.query.Query.{Query}
use Rattle.ebr_ast.specs.declared.statement.CursorStmt.{CursorStmt}
use Rattle.ebr_ast.specs.declared.statement.CursorStmt.TheVariants as cursor
use Rattle.ebr_ast.specs.declared.statement.SqlStmt.{SqlStmt}
use Rattle.ebr_ast.specs.declared.statement.SqlStmt.TheVariants as sql
use Rattle.ebr_sqlcheck.specs.Types.{Known, alike, type_of_value}
use Rattle.ebr_asks.specs.declared.ask.Ask.{Ask}
use Rattle.ebr_asks.specs.declared.ask.Ask.TheVariants as ask
use Rattle.ebr_asks.specs.declared.answer.Answer.{Answer}
use Rattle.ebr_asks.specs.declared.answer.Answer.TheVariants as answer
use Rattle.ebr_run.specs.declared.fault.Fault.TheVariants as fault
use Rattle.ebr_run.specs.declared.place.Bind.{Bind}
use Rattle.ebr_run.specs.declared.place.Bind.TheVariants as bind
use Rattle.ebr_run.specs.declared.place.Location.{Location}
use Rattle.ebr_run.specs.declared.place.Location.TheVariants.{Own, Member}
use Rattle.ebr_run.specs.Faults.{ora, is_uncatchable}
use Rattle.ebr_run.specs.Cursors.{Cursor as CursorState, Closed, Open, is_open, row_fits, Row, Unfit, fetched}
use Rattle.ebr_run.specs.State.{State, Runs, bare, with_operands, ended, Normal, done, raises, stops, then_run, refused, spent, answered, next_answer, asked}
use Rattle.ebr_run.specs.Scope.{Env, Denoted, Variable, Exception, Cursor, Record, Subprogram, Bound, meant_at}
use Rattle.ebr_run.specs.Binds.{bound_query, bound_insert, bound_update, bound_delete}
use Rattle.ebr_run.specs.Values.{cursor_at, with_cursor, moved_on}
use Rattle.ebr_run.specs.Expressions.{Calls}
use Rattle.ebr_run.specs.Statements.{Place, target_place, place_type, bind_reading, requested, only_row, selected, affects, changed, select_into, sql_statement, opened, open_at, on_row, fetch_at, close_at, open_of, fetch_of, close_of, cursor_statement}
use Rattle.ebr_code.specs.declared.instruction.Instruction.{Instruction, Do, If}
use Rattle.ebr_code.specs.declared.instruction.Lookup.{Lookup}
use Rattle.ebr_code.specs.declared.instruction.Lookup.TheVariants as lookup
use Rattle.ebr_code.specs.declared.instruction.Operation.TheVariants as does
use Rattle.ebr_code.specs.Instructions.{looked_up, holding, row_fetched, run}
use Rattle.ebr_code.specs.Codes.{refer_code, listed, stores_code, bind_code, binds_code, request_code, select_code, sql_code, open_code, fetch_code, open_of as open_of_code, fetch_of as fetch_of_code, close_of as close_of_code, cursor_statement as cursor_code}
use Rattle.ebr_code.proofs.Layers.{meaning_of-If}
use Rattle.ebr_laws.proofs.Lists.{first_does, only, only_does}
use Rattle.ebr_laws.proofs.Steps.{GoesOn, SameReading, by_operation, in_row_pushes, referred_same, located_same, cursor_beneath, with_cursor_beneath}
use Rattle.ebr_laws.proofs.Operands.{AllRead, none, one_more, onto, last_of, values_same}
use Rattle.ebr_laws.proofs.Targets.{all_assigned_same, stores_same}

-- ---- asks

refused_ends : (b : Bool) (c : Code) (σ : State) (next : Runs) → (if b then stops c σ else raises (fault.Code c) σ) ≡ then_run (if b then stops c σ else raises (fault.Code c) σ) next
refused_ends true c σ next = refl
refused_ends false c σ next = refl

module _ (k b : Answer → Runs) (next : Runs) (h : (a : Answer) (σ : State) → k a (bare σ) ≡ then_run (b a (bare σ)) next) where
  spent_goes : (t : Bool) (x y : Runs) (σ τ : State) → x (bare σ) ≡ then_run (y (bare σ)) next → (if t then stops (Ebr 7) τ else x (bare σ)) ≡ then_run (if t then stops (Ebr 7) τ else y (bare σ)) next
  spent_goes true x y σ τ e = refl
  spent_goes false x y σ τ e = e

  answered_goes : (a : Answer) (σ : State) → answered a (bare σ) k ≡ then_run (answered a (bare σ) b) next
  answered_goes (answer.Count n steps ls) σ = spent_goes (nat_lt σ.left (σ.steps + steps)) (k (answer.Count n steps ls)) (b (answer.Count n steps ls)) (spent steps ls σ) (spent steps ls (bare σ)) (h (answer.Count n steps ls) (spent steps ls σ))
  answered_goes (answer.Refused c steps ls) σ = spent_goes (nat_lt σ.left (σ.steps + steps)) (refused c) (refused c) (spent steps ls σ) (spent steps ls (bare σ)) (refused_ends (is_uncatchable c) c (bare (spent steps ls σ)) next)
  answered_goes (answer.View v) σ = h (answer.View v) σ
  answered_goes (answer.Rows rows) σ = h (answer.Rows rows) σ
  answered_goes answer.Done σ = h answer.Done σ
  answered_goes answer.Invalid σ = h answer.Invalid σ
  answered_goes answer.DiskFault σ = h answer.DiskFault σ
  answered_goes answer.NoMemory σ = h answer.NoMemory σ
  answered_goes answer.Stopped σ = h answer.Stopped σ

  next_goes : (given : List Answer) (σ : State) → next_answer given (bare σ) k ≡ then_run (next_answer given (bare σ) b) next
  next_goes [] σ = refl
  next_goes (a ∷ given) σ = answered_goes a (record σ { answers = given })

  -- an ask, and what comes behind it
  pub asked_goes : (q : Ask) (σ : State) → asked q (bare σ) k ≡ then_run (asked q (bare σ) b) next
  asked_goes q σ = next_goes σ.answers (record σ { asks = σ.asks ++ q ∷ [] })

-- ---- binds

bind_read : (b : Bind) → SameReading (bind_reading b) (λ env. bind_code b)
bind_read (bind.Variable l) = record { by = λ env calls operands. located_same l calls operands }
bind_read (bind.New k) = record { by = λ env calls operands. by_operation (does.LoadColumn _ k) _ calls operands operands (λ next more h σ. in_row_pushes _ next more calls operands h σ) }
bind_read (bind.Old k) = record { by = λ env calls operands. by_operation (does.LoadColumn _ k) _ calls operands operands (λ next more h σ. in_row_pushes _ next more calls operands h σ) }

binds_read : (bs : List Bind) → AllRead (map bind_reading bs) (map (λ b (env : Env). bind_code b) bs)
binds_read [] = none
binds_read (b ∷ bs) = one_more (bind_read b) (binds_read bs)

binds_listed : (bs : List Bind) (env : Env) → listed (map (λ b (env : Env). bind_code b) bs) env ≡ binds_code bs
binds_listed [] env = refl
binds_listed (b ∷ bs) env = ap (λ z. bind_code b ++ z) (binds_listed bs env)

pub requested_same : (s : SqlTree) (bs : List Bind) (l : Lookup) (env : Env) (calls : Calls) (k : Answer → Runs) (more : List Instruction)
    → ((a : Answer) (τ : State) → k a (bare τ) ≡ then_run (looked_up l a (bare τ)) (run more calls)) → (σ : State) → requested s bs env calls k σ ≡ run (request_code s bs l ++ more) calls (bare σ)
requested_same s bs l env calls k more h σ =
    values_same (binds_read bs) env calls [] _ (Do (does.Sql s (length bs) l) ∷ more) (λ vs e τ.
    asked_goes k (looked_up l) (run more calls) h (ask.Sql s vs (τ.left - τ.steps)) τ
    ∙ ap (λ z. then_run (asked (ask.Sql s z (τ.left - τ.steps)) (bare τ) (looked_up l)) (run more calls)) (sym (last_of (length bs) vs [] (e ∙ length-map bs bind_reading)))
    ∙ sym (first_does (does.Sql s (length bs) l) more calls (with_operands (onto vs []) τ))) σ
    ∙ ap (λ z. run (z ++ Do (does.Sql s (length bs) l) ∷ more) calls (bare σ)) (binds_listed bs env)
    ∙ ap (λ z. run z calls (bare σ)) (sym (append_assoc (binds_code bs) (Do (does.Sql s (length bs) l) ∷ []) more))

-- ---- rows for targets

pub fits_length : (ts : List Known) (vs : List Value) → row_fits ts vs ≡ true → length vs ≡ length ts
fits_length [] [] e = refl
fits_length [] (v ∷ vs) e = cc
fits_length (t ∷ ts) [] e = cc
fits_length (t ∷ ts) (v ∷ vs) e = by_test (alike t (type_of_value v)) (fits_length ts vs) e
  where
    by_test : (b : Bool) → (row_fits ts vs ≡ true → length vs ≡ length ts) → (if b then row_fits ts vs else false) ≡ true → suc (length vs) ≡ suc (length ts)
    by_test true f e = ap suc (f e)
    by_test false f e = cc

fitting_goes : (b : Bool) (ts : List Known) (vs : List Value) → row_fits ts vs ≡ b → (calls : Calls) (k : List Value → Runs) (more : List Instruction)
    → ((vs : List Value) → length vs ≡ length ts → (τ : State) → k vs τ ≡ run more calls (with_operands vs τ)) → (σ : State)
    → (if b then k vs σ else raises (ora 932) σ) ≡ then_run (if b then holding vs σ else raises (ora 932) σ) (run more calls)
fitting_goes true ts vs e calls k more h σ = h vs (fits_length ts vs e) σ
fitting_goes false ts vs e calls k more h σ = refl

only_goes : (ts : List Known) (rows : List (List Value)) (calls : Calls) (k : List Value → Runs) (more : List Instruction)
    → ((vs : List Value) → length vs ≡ length ts → (τ : State) → k vs τ ≡ run more calls (with_operands vs τ)) → (σ : State) → only_row ts rows k σ ≡ then_run (only_row ts rows holding σ) (run more calls)
only_goes ts [] calls k more h σ = refl
only_goes ts (row ∷ []) calls k more h σ = fitting_goes (row_fits ts row) ts row refl calls k more h σ
only_goes ts (row ∷ other ∷ rows) calls k more h σ = refl

selected_goes : (ts : List Known) (calls : Calls) (k : List Value → Runs) (more : List Instruction)
    → ((vs : List Value) → length vs ≡ length ts → (τ : State) → k vs τ ≡ run more calls (with_operands vs τ))
    → (a : Answer) (σ : State) → selected ts k a σ ≡ then_run (looked_up (lookup.Row ts) a σ) (run more calls)
selected_goes ts calls k more h (answer.Rows rows) σ = only_goes ts rows calls k more h σ
selected_goes ts calls k more h (answer.Count n steps ls) σ = refl
selected_goes ts calls k more h (answer.Refused c steps ls) σ = refl
selected_goes ts calls k more h (answer.View v) σ = refl
selected_goes ts calls k more h answer.Done σ = refl
selected_goes ts calls k more h answer.Invalid σ = refl
selected_goes ts calls k more h answer.DiskFault σ = refl
selected_goes ts calls k more h answer.NoMemory σ = refl
selected_goes ts calls k more h answer.Stopped σ = refl

select_same : (q : Bound Query) (ps : List Place) (env : Env) (calls : Calls) (σ : State) → select_into q ps env calls σ ≡ run (select_code q ps) calls (bare σ)
select_same q ps env calls σ =
    requested_same (statement.Query q.tree) q.binds (lookup.Row (map place_type ps)) env calls _ (stores_code ps ++ Do (does.Affect 1) ∷ []) (λ a τ.
    selected_goes (map place_type ps) calls _ (stores_code ps ++ Do (does.Affect 1) ∷ []) (λ vs e υ.
    all_assigned_same ps vs (e ∙ length-map ps place_type) calls (affects 1) (Do (does.Affect 1) ∷ []) (λ ω. sym (only_does (does.Affect 1) calls (bare ω))) υ) a (bare τ)) σ

-- ---- statements with a count

changed_goes : (a : Answer) (calls : Calls) (σ : State) → changed a σ ≡ then_run (looked_up lookup.Count a σ) (run [] calls)
changed_goes (answer.Count n steps ls) calls σ = refl
changed_goes (answer.Rows rows) calls σ = refl
changed_goes (answer.Refused c steps ls) calls σ = refl
changed_goes (answer.View v) calls σ = refl
changed_goes answer.Done calls σ = refl
changed_goes answer.Invalid calls σ = refl
changed_goes answer.DiskFault calls σ = refl
changed_goes answer.NoMemory calls σ = refl
changed_goes answer.Stopped calls σ = refl

counted_same : (s : SqlTree) (bs : List Bind) (env : Env) (calls : Calls) (σ : State) → requested s bs env calls changed σ ≡ run (request_code s bs lookup.Count) calls (bare σ)
counted_same s bs env calls σ =
    requested_same s bs lookup.Count env calls changed [] (λ a τ. changed_goes a calls (bare τ)) σ ∙ ap (λ z. run z calls (bare σ)) (append-nil (request_code s bs lookup.Count))

pub sql_same : (s : SqlStmt) (env : Env) (calls : Calls) (σ : State) → sql_statement s env calls σ ≡ run (sql_code s env) calls (bare σ)
sql_same (sql.SelectInto q ts) env calls σ = select_same (bound_query env q) (map (target_place env) ts) env calls σ
sql_same (sql.Insert i) env calls σ = let b = bound_insert env i in counted_same (statement.Insert b.tree) b.binds env calls σ
sql_same (sql.Update u) env calls σ = let b = bound_update env u in counted_same (statement.Update b.tree) b.binds env calls σ
sql_same (sql.Delete d) env calls σ = let b = bound_delete env d in counted_same (statement.Delete b.tree) b.binds env calls σ
sql_same (sql.Transaction t) env calls σ = sym (only_does (does.Transact t) calls (bare σ))

-- ---- OPEN

opened_goes : (l : Location) (calls : Calls) (k : Runs) (more : List Instruction) → GoesOn k more calls [] → (a : Answer) (σ : State) → opened l k a σ ≡ then_run (looked_up (lookup.Open l) a σ) (run more calls)
opened_goes l calls k more h (answer.Rows rows) σ = h (with_cursor l (Open rows 0 None) σ)
opened_goes l calls k more h (answer.Count n steps ls) σ = refl
opened_goes l calls k more h (answer.Refused c steps ls) σ = refl
opened_goes l calls k more h (answer.View v) σ = refl
opened_goes l calls k more h answer.Done σ = refl
opened_goes l calls k more h answer.Invalid σ = refl
opened_goes l calls k more h answer.DiskFault σ = refl
opened_goes l calls k more h answer.NoMemory σ = refl
opened_goes l calls k more h answer.Stopped σ = refl

unless_open : (b : Bool) (r : Runs) (calls : Calls) (more : List Instruction) → GoesOn r more calls [] → (σ : State)
    → (if b then raises (ora 6511) σ else r σ) ≡ then_run (if b then raises (ora 6511) (bare σ) else ended Normal (bare σ)) (run more calls)
unless_open true r calls more h σ = refl
unless_open false r calls more h σ = h σ

pub open_same : (l : Location) (q : Bound Query) (env : Env) (calls : Calls) (k : Runs) (more : List Instruction) → GoesOn k more calls [] → (σ : State)
    → open_at l q env calls k σ ≡ run (open_code l q ++ more) calls (bare σ)
open_same l q env calls k more h σ =
    let request = request_code (statement.Query q.tree) q.binds (lookup.Open l) in
    referred_same l calls [] _ (Do (does.Open l) ∷ (request ++ more)) (λ τ.
    unless_open (is_open (cursor_at l τ)) _ calls (request ++ more) (λ υ. requested_same (statement.Query q.tree) q.binds (lookup.Open l) env calls (opened l k) more (λ a ω. opened_goes l calls k more h a (bare ω)) υ) τ
    ∙ ap (λ c. then_run (if is_open c then raises (ora 6511) (bare τ) else ended Normal (bare τ)) (run (request ++ more) calls)) (sym (cursor_beneath l [] τ))
    ∙ sym (first_does (does.Open l) (request ++ more) calls (bare τ))) σ
    ∙ ap (λ z. run z calls (bare σ)) (sym (append_assoc (refer_code l) (Do (does.Open l) ∷ request) more))

-- ---- FETCH

moved_beneath : (l : Location) (σ : State) → moved_on l (bare σ) ≡ bare (moved_on l σ)
moved_beneath (Own k) σ = refl
moved_beneath (Member p k) σ = refl

module _ (ts : List Known) (calls : Calls) (k : List Value → Runs) (n : Runs) (row nothing : List Instruction)
    (h : (vs : List Value) → length vs ≡ length ts → (τ : State) → k vs τ ≡ run row calls (with_operands vs τ)) (e : (τ : State) → n τ ≡ run nothing calls (bare τ)) where
  fitting_row : (b : Bool) (vs : List Value) → row_fits ts vs ≡ b → (σ : State)
      → on_row (if b then Row vs else Unfit) k n σ ≡ then_run (row_fetched (if b then Row vs else Unfit) (bare σ)) (run (If row nothing ∷ []) calls)
  fitting_row true vs l σ = h vs (fits_length ts vs l) σ ∙ sym (only (If row nothing) _ calls _ (meaning_of-If row nothing))
  fitting_row false vs l σ = refl

  fetched_goes : (c : CursorState) (σ : State) → on_row (fetched ts c) k n σ ≡ then_run (row_fetched (fetched ts c) (bare σ)) (run (If row nothing ∷ []) calls)
  fetched_goes Closed σ = refl
  fetched_goes (Open [] m found) σ = e σ ∙ sym (only (If row nothing) _ calls _ (meaning_of-If row nothing))
  fetched_goes (Open (vs ∷ rows) m found) σ = fitting_row (row_fits ts vs) vs refl σ

  pub fetch_same : (l : Location) (σ : State) → fetch_at l ts calls k n σ ≡ run (fetch_code l ts row nothing) calls (bare σ)
  fetch_same l σ =
      referred_same l calls [] _ (Do (does.Fetch l ts) ∷ If row nothing ∷ []) (λ τ.
      fetched_goes (cursor_at l τ) (moved_on l τ)
      ∙ ap (λ z. then_run (row_fetched (fetched ts (cursor_at l τ)) z) (run (If row nothing ∷ []) calls)) (sym (moved_beneath l τ))
      ∙ ap (λ c. then_run (row_fetched (fetched ts c) (moved_on l (bare τ))) (run (If row nothing ∷ []) calls)) (sym (cursor_beneath l [] τ))
      ∙ sym (first_does (does.Fetch l ts) (If row nothing ∷ []) calls (bare τ))) σ

-- ---- statements on cursors

close_same : (l : Location) (calls : Calls) (σ : State) → close_at l calls σ ≡ run (refer_code l ++ Do (does.Close l) ∷ []) calls (bare σ)
close_same l calls σ =
    referred_same l calls [] _ (Do (does.Close l) ∷ []) (λ τ.
    ap (λ z. if is_open (cursor_at l τ) then ended Normal z else raises (ora 1001) τ) (sym (with_cursor_beneath l Closed [] τ))
    ∙ ap (λ c. if is_open c then ended Normal (with_cursor l Closed (bare τ)) else raises (ora 1001) τ) (sym (cursor_beneath l [] τ))
    ∙ ap (λ z. if is_open (cursor_at l (bare τ)) then ended Normal z else raises (ora 1001) τ) (with_cursor_beneath l Closed [] τ ∙ ap bare (sym (with_cursor_beneath l Closed [] τ)))
    ∙ sym (only_does (does.Close l) calls (bare τ))) σ

open_of_same : (d : Option Denoted) (env : Env) (calls : Calls) (σ : State) → open_of d env calls σ ≡ run (open_of_code d) calls (bare σ)
open_of_same (Some (Cursor l q fs)) env calls σ = open_same l q env calls done [] (λ τ. refl) σ ∙ ap (λ z. run z calls (bare σ)) (append-nil (open_code l q))
open_of_same (Some (Variable l t)) env calls σ = sym (only_does does.Broken calls (bare σ))
open_of_same (Some (Subprogram key at h)) env calls σ = sym (only_does does.Broken calls (bare σ))
open_of_same (Some (Exception p f)) env calls σ = sym (only_does does.Broken calls (bare σ))
open_of_same (Some (Record ps)) env calls σ = sym (only_does does.Broken calls (bare σ))
open_of_same None env calls σ = sym (only_does does.Broken calls (bare σ))

fetch_of_same : (d : Option Denoted) (ps : List Place) (calls : Calls) (σ : State) → fetch_of d ps calls σ ≡ run (fetch_of_code d ps) calls (bare σ)
fetch_of_same (Some (Cursor l q fs)) ps calls σ = fetch_same (map place_type ps) calls _ done (stores_code ps) [] (λ vs e τ. stores_same ps vs (e ∙ length-map ps place_type) calls τ) (λ τ. refl) l σ
fetch_of_same (Some (Variable l t)) ps calls σ = sym (only_does does.Broken calls (bare σ))
fetch_of_same (Some (Subprogram key at h)) ps calls σ = sym (only_does does.Broken calls (bare σ))
fetch_of_same (Some (Exception p f)) ps calls σ = sym (only_does does.Broken calls (bare σ))
fetch_of_same (Some (Record qs)) ps calls σ = sym (only_does does.Broken calls (bare σ))
fetch_of_same None ps calls σ = sym (only_does does.Broken calls (bare σ))

close_of_same : (d : Option Denoted) (calls : Calls) (σ : State) → close_of d calls σ ≡ run (close_of_code d) calls (bare σ)
close_of_same (Some (Cursor l q fs)) calls σ = close_same l calls σ
close_of_same (Some (Variable l t)) calls σ = sym (only_does does.Broken calls (bare σ))
close_of_same (Some (Subprogram key at h)) calls σ = sym (only_does does.Broken calls (bare σ))
close_of_same (Some (Exception p f)) calls σ = sym (only_does does.Broken calls (bare σ))
close_of_same (Some (Record ps)) calls σ = sym (only_does does.Broken calls (bare σ))
close_of_same None calls σ = sym (only_does does.Broken calls (bare σ))

pub cursor_same : (s : CursorStmt) (env : Env) (calls : Calls) (σ : State) → cursor_statement s env calls σ ≡ run (cursor_code s env) calls (bare σ)
cursor_same (cursor.Open c) env calls σ = open_of_same (meant_at env c None) env calls σ
cursor_same (cursor.Fetch c ts) env calls σ = fetch_of_same (meant_at env c None) (map (target_place env) ts) calls σ
cursor_same (cursor.Close c) env calls σ = close_of_same (meant_at env c None) calls σ
