-- Lists of statements, IF, loops, declarations and handlers ask what code may ask.
use Rattle.std.proofs.Common.{ℕ, suc, Bool, true, false, ℤ, List, [], ◌∷◌, map, Option, Some, None}
use Rattle.std.specs.Prelude.{◌-ℤ◌, int_lt, unsigned_abs, if◌then◌else◌}
use Rattle.std.specs.List.{AllByRecursion}
use Rattle.ebr_base.specs.declared.value.Value.{Value}
use Rattle.ebr_base.specs.declared.value.Value.TheVariants as value
use Rattle.ebr_exprtree.specs.declared.expression.Expr.{Expr}
use Rattle.ebr_ast.specs.declared.statement.Decl.{Decl}
use Rattle.ebr_ast.specs.declared.statement.Decl.TheVariants as decl
use Rattle.ebr_ast.specs.declared.statement.Range.{Range}
use Rattle.ebr_ast.specs.declared.statement.Rows.{Rows}
use Rattle.ebr_run.specs.declared.place.Location.{Location}
use Rattle.ebr_run.specs.Faults.{is_caught}
use Rattle.ebr_run.specs.Cursors.{Closed}
use Rattle.ebr_run.specs.State.{State, Runs, End, Returned, bare, with_operands, ended, done, then_run, step, loop, counting, finally}
use Rattle.ebr_run.specs.Values.{unfit, is_true, with_variable, assign, with_cursor}
use Rattle.ebr_run.specs.Scope.{Env, part, within_handler, next_variable, next_cursor, declared_type, with_counter, known_fields}
use Rattle.ebr_run.specs.Expressions.{Calls, reading_of}
use Rattle.ebr_run.specs.Statements.{Meaning, Source, Handling, run_all, condition, choose, leave, exits, while_true, number_of_turn, in_turn, between, over_numbers, for_range, field_type, with_fields, declared_by, over_rows, in_rows, for_rows_of, fetch_at, result_given, give, initial, declare, declare_among, declare_all, with_decl, handling, catches, handled, guarded}
use Rattle.ebr_bodies.proofs.CodeStates.{Keep, Keeps, FaultsKeep, if_keeps, then_run_keeps, step_keeps, loop_keeps, counting_keeps, caught_keeps, finally_keeps}
use Rattle.ebr_bodies.proofs.CodeValues.{when_fit_keeps, assign_keeps, with_cursor_keep}
use Rattle.ebr_bodies.proofs.CodeOperators.{CallsKeep, ReadingKeeps}
use Rattle.ebr_bodies.proofs.CodeExpressions.{reading_keeps}
use Rattle.ebr_bodies.proofs.CodeTargets.{MeaningKeeps, null_keeps, open_at_keeps, fetch_at_keeps}

-- ---- lists of statements

pub run_all_keeps : (i : ℕ) (ms : List Meaning) → AllByRecursion MeaningKeeps ms → MeaningKeeps (run_all i ms)
run_all_keeps i [] mk env calls kc σ h = h
run_all_keeps i (m ∷ ms) mk env calls kc σ h =
    then_run_keeps (step σ (m (part i env) calls)) (run_all (suc i) ms env calls) (step_keeps σ (m (part i env) calls) h (mk.0 (part i env) calls kc)) (run_all_keeps (suc i) ms mk.1 env calls kc)

-- ---- IF and loops

pub condition_keeps : (e : Expr) (env : Env) (calls : Calls) → CallsKeep calls → (holds fails : Runs) → Keeps holds → Keeps fails → Keeps (condition e env calls holds fails)
condition_keeps e env calls kc holds fails a b σ h =
    reading_keeps e env calls kc (λ v τ. if is_true v then holds (bare τ) else fails (bare τ)) (λ v τ k. if_keeps (is_true v) (holds (bare τ)) (fails (bare τ)) (a (bare τ) k) (b (bare τ) k)) σ h

abbrev pub BranchKeeps : Expr × Meaning → Type 0
BranchKeeps b = MeaningKeeps b.1

pub choose_keeps : (i : ℕ) (bs : List (Expr × Meaning)) → AllByRecursion BranchKeeps bs → (otherwise : Meaning) → MeaningKeeps otherwise → MeaningKeeps (choose i bs otherwise)
choose_keeps i [] bk otherwise ok env calls kc σ h = ok (part 0 env) calls kc σ h
choose_keeps i (b ∷ bs) bk otherwise ok env calls kc σ h =
    condition_keeps b.0 env calls kc (b.1 (part (suc i) env) calls) (choose (suc i) bs otherwise env calls) (bk.0 (part (suc i) env) calls kc) (choose_keeps (suc i) bs bk.1 otherwise ok env calls kc) σ h

pub leave_keeps : (e : End) (c : Option Expr) → MeaningKeeps (leave e c)
leave_keeps e None env calls kc σ h = h
leave_keeps e (Some c) env calls kc σ h = condition_keeps c env calls kc (ended e) done (λ τ k. k) (λ τ k. k) σ h

pub while_keeps : (e : Expr) (env : Env) (calls : Calls) → CallsKeep calls → Keeps (while_true e env calls)
while_keeps e env calls kc σ h = condition_keeps e env calls kc done exits (λ τ k. k) (λ τ k. k) σ h

between_keeps : (k : ℕ) (reversed : Bool) (low high : ℤ) (body : Runs) → Keeps body → Keeps (between k reversed low high body)
between_keeps k reversed low high body b σ h =
    if_keeps (int_lt high low) (done σ) (counting (suc (unsigned_abs (high -ℤ low))) (in_turn k reversed low high body) σ) h
    (counting_keeps (suc (unsigned_abs (high -ℤ low))) (in_turn k reversed low high body) (λ n τ g. b (with_variable k (value.Num (number_of_turn reversed low high n)) τ) g) σ h)

over_numbers_keeps : (k : ℕ) (reversed : Bool) (low high : Value) (body : Runs) → Keeps body → Keeps (over_numbers k reversed low high body)
over_numbers_keeps k reversed (value.Num low) (value.Num high) body b σ h = between_keeps k reversed low high body b σ h
over_numbers_keeps k reversed (value.Num low) (value.Text t) body b σ h = h
over_numbers_keeps k reversed (value.Num low) (value.Bool t) body b σ h = h
over_numbers_keeps k reversed (value.Num low) value.Null body b σ h = h
over_numbers_keeps k reversed (value.Text t) high body b σ h = h
over_numbers_keeps k reversed (value.Bool t) high body b σ h = h
over_numbers_keeps k reversed value.Null high body b σ h = h

pub for_range_keeps : (r : Range) (body : Meaning) → MeaningKeeps body → MeaningKeeps (for_range r body)
for_range_keeps r body b env calls kc σ h =
    let inside = body (with_counter r.name env) calls in
    reading_keeps r.low env calls kc (λ low τ. reading_of r.high env calls (λ high υ. over_numbers env.variables r.reversed low high inside (bare υ)) τ)
    (λ low τ k. reading_keeps r.high env calls kc (λ high υ. over_numbers env.variables r.reversed low high inside (bare υ))
    (λ high υ l. over_numbers_keeps env.variables r.reversed low high inside (b (with_counter r.name env) calls kc) (bare υ) l) τ k) σ h

-- ---- loops over rows

with_fields_keep : (k : ℕ) (vs : List Value) (σ : State) → Keep σ → Keep (with_fields k vs σ)
with_fields_keep k [] σ h = h
with_fields_keep k (v ∷ vs) σ h = with_fields_keep (suc k) vs (with_variable k v σ) h

declared_keep : (own : Bool) (l : Location) (σ : State) → Keep σ → Keep (if own then with_cursor l Closed σ else σ)
declared_keep true l σ h = with_cursor_keep l Closed σ h
declared_keep false l σ h = h

over_rows_keeps : (s : Source) (body : Meaning) → MeaningKeeps body → (env : Env) (calls : Calls) → CallsKeep calls → Keeps (over_rows s body env calls)
over_rows_keeps s body b env calls kc σ h =
    let ts = map field_type (known_fields s.fields) in
    let head = fetch_at s.location ts calls (λ vs υ. done (with_fields env.variables vs υ)) exits in
    open_at_keeps s.location s.query env calls kc (λ τ. finally (loop head (body env calls) τ) (with_cursor s.location Closed))
    (λ τ k. finally_keeps (loop head (body env calls) τ) (with_cursor s.location Closed)
    (loop_keeps head (body env calls) (fetch_at_keeps s.location ts calls kc (λ vs υ. done (with_fields env.variables vs υ)) exits (λ vs υ l. with_fields_keep env.variables vs υ l) (λ υ l. l)) (b env calls kc) τ k)
    (λ υ l. with_cursor_keep s.location Closed υ l)) (declared_by s σ) (declared_keep s.own s.location σ h)

pub for_rows_keeps : (s : Option Source) (r : Rows) (body : Meaning) → MeaningKeeps body → MeaningKeeps (for_rows_of s r body)
for_rows_keeps None r body b env calls kc σ h = h
for_rows_keeps (Some s) r body b env calls kc σ h = over_rows_keeps s (λ e. body (in_rows r.record s e)) (λ e. b (in_rows r.record s e)) env calls kc σ h

-- ---- RETURN

pub give_keeps : (e : Option Expr) → MeaningKeeps (give e)
give_keeps None env calls kc σ h = h
give_keeps (Some e) env calls kc σ h =
    reading_keeps e env calls kc (result_given env.result) (λ v τ k. when_fit_keeps (unfit env.result v) (λ υ. ended Returned (with_operands (v ∷ []) υ)) (λ υ l. l) τ k) σ h

-- ---- declarations

initial_keeps : (e : Option Expr) → ReadingKeeps (initial e)
initial_keeps None = null_keeps
initial_keeps (Some e) = reading_keeps e

declare_keeps : (d : Decl) (env : Env) (calls : Calls) → CallsKeep calls → (next : Runs) → Keeps next → Keeps (declare d env calls next)
declare_keeps (decl.Variable x c t e) env calls kc next n σ h =
    let l = next_variable env in
    let ty = Some (declared_type env.view t) in
    initial_keeps e env calls kc (λ v τ. then_run (assign l ty v τ) next) (λ v τ k. then_run_keeps (assign l ty v τ) next (assign_keeps l ty v τ k) n) σ h
declare_keeps (decl.Cursor x q) env calls kc next n σ h = n (bare (with_cursor (next_cursor env) Closed σ)) (with_cursor_keep (next_cursor env) Closed σ h)
declare_keeps (decl.Exception x) env calls kc next n σ h = n σ h
declare_keeps (decl.ExceptionInit x k) env calls kc next n σ h = n σ h
declare_keeps decl.Autonomous env calls kc next n σ h = n σ h

declare_among_keeps : (all ds : List Decl) (env : Env) (calls : Calls) → CallsKeep calls → (next : Runs) → Keeps next → Keeps (declare_among all ds env calls next)
declare_among_keeps all [] env calls kc next n σ h = n σ h
declare_among_keeps all (d ∷ ds) env calls kc next n σ h = declare_keeps d env calls kc (declare_among all ds (with_decl all d env) calls next) (declare_among_keeps all ds (with_decl all d env) calls kc next n) σ h

pub declare_all_keeps : (ds : List Decl) (env : Env) (calls : Calls) → CallsKeep calls → (next : Runs) → Keeps next → Keeps (declare_all ds env calls next)
declare_all_keeps ds env calls kc next n σ h = declare_among_keeps ds ds env calls kc next n σ h

-- ---- handlers

abbrev pub HandlerKeeps : Handling → Type 0
HandlerKeeps x = MeaningKeeps x.run

handled_keeps : (i : ℕ) (hs : List Handling) → AllByRecursion HandlerKeeps hs → (env : Env) (calls : Calls) → CallsKeep calls → FaultsKeep (handled i hs env calls)
handled_keeps i [] hk env calls kc f σ h = h
handled_keeps i (x ∷ hs) hk env calls kc f σ h =
    let e = within_handler (part (suc i) env) in
    if_keeps (is_caught (catches env x.caught) f) (x.run e calls (handling env f σ)) (handled (suc i) hs env calls f σ) (hk.0 e calls kc (handling env f σ) h) (handled_keeps (suc i) hs hk.1 env calls kc f σ h)

pub guarded_keeps : (ms : List Meaning) → AllByRecursion MeaningKeeps ms → (hs : List Handling) → AllByRecursion HandlerKeeps hs → MeaningKeeps (guarded ms hs)
guarded_keeps ms mk hs hk env calls kc σ h = caught_keeps (run_all 0 ms (part 0 env) calls σ) (handled 0 hs env calls) (run_all_keeps 0 ms mk (part 0 env) calls kc σ h) (handled_keeps 0 hs hk env calls kc)
