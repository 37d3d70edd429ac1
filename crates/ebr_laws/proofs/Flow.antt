-- Lists of statements, IF and loops.
use Rattle.std.proofs.Common.{◌≡◌, ℕ, zero, suc, Bool, true, false, if◌then◌else◌, List, [], ◌∷◌, ◌++◌, map, Option, Some, None, refl, sym, ap, ◌∙◌}
use Rattle.std.specs.Prelude.{nat_lt, ◌-◌}
use Rattle.ebr_base.specs.declared.code.Code.TheVariants.{Ebr}
use Rattle.ebr_base.specs.declared.value.Value.{Value}
use Rattle.ebr_exprtree.specs.declared.expression.Expr.{Expr}
use Rattle.ebr_ast.specs.declared.query.Query.{Query}
use Rattle.ebr_ast.specs.declared.statement.Range.{Range}
use Rattle.ebr_ast.specs.declared.statement.Rows.{Rows}
use Rattle.ebr_sqlcheck.specs.Types.{Known}
use Rattle.ebr_run.specs.declared.place.Location.{Location}
use Rattle.ebr_run.specs.declared.place.Location.TheVariants.{Own}
use Rattle.ebr_run.specs.Cursors.{Closed}
use Rattle.ebr_run.specs.State.{State, Runs, End, bare, with_operands, ended, done, stops, then_run, step, after_turn, turns, loop, finally}
use Rattle.ebr_run.specs.Scope.{Env, Bound, part, with_counter, known_fields}
use Rattle.ebr_run.specs.Values.{is_true, with_variable, with_cursor}
use Rattle.ebr_run.specs.Expressions.{Calls}
use Rattle.ebr_run.specs.Statements.{Meaning, run_all, condition, choose, leave, exits, while_true, over_numbers, for_range, Source, field_type, with_fields, fetch_at, open_at, over_rows, in_rows, for_rows_of}
use Rattle.ebr_code.specs.declared.instruction.Instruction.{Instruction, Do, If, Loop, Numbers, Closing}
use Rattle.ebr_code.specs.declared.instruction.Operation.{Operation}
use Rattle.ebr_code.specs.declared.instruction.Operation.TheVariants as does
use Rattle.ebr_code.specs.Instructions.{operate, run}
use Rattle.ebr_code.specs.Codes.{Coded, all, choose_code, leave_code, while_code, range_code, fields_code, open_code, fetch_code, declared_code, over_rows_code, rows_code, expr_code}
use Rattle.ebr_code.proofs.Layers.{meaning_of-If, meaning_of-Loop, meaning_of-Numbers, meaning_of-Closing}
use Rattle.ebr_laws.proofs.Lists.{then_same, run_append, first_does, only, only_does}
use Rattle.ebr_laws.proofs.Readings.{reading_same}
use Rattle.ebr_laws.proofs.Requests.{open_same, fetch_same}
use Rattle.ebr_laws.proofs.Steps.{GoesOn, with_cursor_beneath}
use Rattle.std.specs.Prelude.{length}

-- ---- lists of statements

-- what a statement does without operands is what its code does
pub record SameMeaning (m : Meaning) (c : Coded) : Type 0 where
  pub by : (env : Env) (calls : Calls) (σ : State) → m env calls (bare σ) ≡ run (c env) calls (bare σ)

-- also with operands
pub record SameBody (m : Meaning) (c : Coded) : Type 0 where
  pub by : (env : Env) (calls : Calls) (σ : State) → m env calls σ ≡ run (c env) calls σ

pub data AllSame : List Meaning → List Coded → Type 0 where
  no_statement : AllSame [] []
  statement_more : {m : Meaning} {c : Coded} {ms : List Meaning} {cs : List Coded} → SameMeaning m c → AllSame ms cs → AllSame (m ∷ ms) (c ∷ cs)

step_goes : (b : Bool) (x rest : Runs) (c d : List Instruction) (calls : Calls) (σ τ : State) → x (bare σ) ≡ run c calls (bare σ) → ((υ : State) → rest υ ≡ run d calls υ)
    → then_run (if b then x (bare σ) else stops (Ebr 7) τ) rest ≡ then_run (if b then done (bare σ) else stops (Ebr 7) τ) (run (c ++ d) calls)
step_goes true x rest c d calls σ τ e h = ap (λ o. then_run o rest) e ∙ then_same (run c calls (bare σ)) rest (run d calls) h ∙ sym (run_append c d calls (bare σ))
step_goes false x rest c d calls σ τ e h = refl

pub all_same : (i : ℕ) {ms : List Meaning} {cs : List Coded} → AllSame ms cs → (env : Env) (calls : Calls) (σ : State) → run_all i ms env calls σ ≡ run (all i cs env) calls σ
all_same i no_statement env calls σ = refl
all_same i (statement_more {m} {c} {ms} {cs} s ss) env calls σ =
    step_goes (nat_lt σ.steps σ.left) (m (part i env) calls) (run_all (suc i) ms env calls) (c (part i env)) (all (suc i) cs env) calls (record σ { steps = suc σ.steps }) (record σ { steps = suc σ.steps })
    (s.by (part i env) calls (record σ { steps = suc σ.steps })) (all_same (suc i) ss env calls)
    ∙ sym (first_does does.Step (c (part i env) ++ all (suc i) cs env) calls σ)

pub body_same : {ms : List Meaning} {cs : List Coded} → AllSame ms cs → SameBody (run_all 0 ms) (all 0 cs)
body_same ss = record { by = all_same 0 ss }

-- ---- IF

if_same : (b : Bool) (x y : Runs) (c d : List Instruction) (calls : Calls) (σ : State) → x (bare σ) ≡ run c calls (bare σ) → y (bare σ) ≡ run d calls (bare σ)
    → (if b then x (bare σ) else y (bare σ)) ≡ (if b then run c calls (bare σ) else run d calls (bare σ))
if_same true x y c d calls σ e f = e
if_same false x y c d calls σ e f = f

pub condition_same : (e : Expr) (env : Env) (calls : Calls) (x y : Runs) (c d : List Instruction) → ((τ : State) → x (bare τ) ≡ run c calls (bare τ)) → ((τ : State) → y (bare τ) ≡ run d calls (bare τ)) → (σ : State)
    → condition e env calls x y σ ≡ run (expr_code e env ++ If c d ∷ []) calls (bare σ)
condition_same e env calls x y c d h k σ =
    reading_same e env calls σ [] (If c d ∷ []) _ (λ v τ.
    if_same (is_true v) x y c d calls τ (h τ) (k τ) ∙ sym (only (If c d) _ calls (with_operands (v ∷ []) τ) (meaning_of-If c d)))

pub record SameBranch (b : Expr × Meaning) (c : Expr × Coded) : Type 0 where
  pub condition : b.0 ≡ c.0
  pub body : SameBody b.1 c.1

pub data AllBranches : List (Expr × Meaning) → List (Expr × Coded) → Type 0 where
  no_branch : AllBranches [] []
  branch_more : {b : Expr × Meaning} {c : Expr × Coded} {bs : List (Expr × Meaning)} {cs : List (Expr × Coded)} → SameBranch b c → AllBranches bs cs → AllBranches (b ∷ bs) (c ∷ cs)

pub choose_same : (i : ℕ) {bs : List (Expr × Meaning)} {cs : List (Expr × Coded)} → AllBranches bs cs → (m : Meaning) (c : Coded) → SameBody m c → (env : Env) (calls : Calls) (σ : State)
    → choose i bs m env calls (bare σ) ≡ run (choose_code i cs c env) calls (bare σ)
choose_same i no_branch m c s env calls σ = s.by (part 0 env) calls (bare σ)
choose_same i (branch_more {b} {c = d} {bs} {cs} t ts) m c s env calls σ =
    condition_same b.0 env calls (b.1 (part (suc i) env) calls) (choose (suc i) bs m env calls) (d.1 (part (suc i) env)) (choose_code (suc i) cs c env) (λ τ. t.body.by (part (suc i) env) calls (bare τ)) (choose_same (suc i) ts m c s env calls) (bare σ)
    ∙ ap (λ e. run (expr_code e env ++ If (d.1 (part (suc i) env)) (choose_code (suc i) cs c env) ∷ []) calls (bare σ)) t.condition

-- ---- EXIT and CONTINUE

pub leave_same : (f : End) (o : Operation) → ((calls : Calls) (σ : State) → ended f (bare σ) ≡ operate o calls σ) → (e : Option Expr) (env : Env) (calls : Calls) (σ : State)
    → leave f e env calls σ ≡ run (leave_code (Do o) e env) calls (bare σ)
leave_same f o h None env calls σ = h calls (bare σ) ∙ sym (only_does o calls (bare σ))
leave_same f o h (Some e) env calls σ = condition_same e env calls (ended f) done (Do o ∷ []) [] (λ τ. h calls (bare τ) ∙ sym (only_does o calls (bare τ))) (λ τ. refl) σ

-- ---- loops

-- a head runs without operands
bare_head : (n : ℕ) (head body : Runs) (σ : State) → turns n head body σ ≡ turns n (λ τ. head (bare τ)) body σ
bare_head zero head body σ = refl
bare_head (suc n) head body σ = ap (λ f. after_turn (head (bare σ)) (λ τ. step τ (λ υ. after_turn (body υ) f))) (λ i τ. bare_head n head body τ i)

turns_same : (n : ℕ) (head body : Runs) (c d : List Instruction) (calls : Calls) → ((τ : State) → head (bare τ) ≡ run c calls (bare τ)) → ((τ : State) → body τ ≡ run d calls τ) → (σ : State)
    → turns n head body σ ≡ turns n (run c calls) (run d calls) σ
turns_same n head body c d calls h k σ =
    bare_head n head body σ
    ∙ ap (λ f. turns n f body σ) (λ i τ. h τ i)
    ∙ ap (λ f. turns n (λ τ. run c calls (bare τ)) f σ) (λ i τ. k τ i)
    ∙ sym (bare_head n (run c calls) (run d calls) σ)

pub loop_same : (head body : Runs) (c d : List Instruction) (calls : Calls) → ((τ : State) → head (bare τ) ≡ run c calls (bare τ)) → ((τ : State) → body τ ≡ run d calls τ) → (σ : State)
    → loop head body σ ≡ run (Loop c d ∷ []) calls σ
unfolding loop
loop_same head body c d calls h k σ = turns_same (suc (σ.left - σ.steps)) head body c d calls h k σ ∙ sym (only (Loop c d) _ calls σ (meaning_of-Loop c d))

-- a loop begins without operands
loop_beneath : (head body : Runs) (σ : State) → loop head body σ ≡ loop head body (bare σ)
unfolding loop
loop_beneath head body σ = refl

pub while_same : (e : Expr) (env : Env) (calls : Calls) (σ : State) → while_true e env calls (bare σ) ≡ run (while_code e env) calls (bare σ)
while_same e env calls σ = condition_same e env calls done exits [] (Do does.Exit ∷ []) (λ τ. refl) (λ τ. sym (only_does does.Exit calls (bare τ))) (bare σ)

pub range_same : (r : Range) (m : Meaning) (c : Coded) → SameBody m c → (env : Env) (calls : Calls) (σ : State) → for_range r m env calls σ ≡ run (range_code r c env) calls (bare σ)
range_same r m c s env calls σ =
    let e = with_counter r.name env in
    let i = Numbers env.variables r.reversed (c e) in
    reading_same r.low env calls σ [] (expr_code r.high env ++ i ∷ []) _ (λ low τ.
    reading_same r.high env calls τ (low ∷ []) (i ∷ []) _ (λ high υ.
    ap (λ f. over_numbers env.variables r.reversed low high f (bare υ)) (λ j ω. s.by e calls ω j)
    ∙ sym (only i _ calls (with_operands (high ∷ low ∷ []) υ) (meaning_of-Numbers env.variables r.reversed (c e)))))

-- ---- loops over rows

fields_same : (k : ℕ) (ts : List Known) (vs : List Value) → length vs ≡ length ts → (calls : Calls) (σ : State) → done (with_fields k vs σ) ≡ run (fields_code k ts) calls (with_operands vs σ)
fields_same k [] [] e calls σ = refl
fields_same k [] (v ∷ vs) e calls σ = cc
fields_same k (t ∷ ts) [] e calls σ = cc
fields_same k (t ∷ ts) (v ∷ vs) e calls σ =
    fields_same (suc k) ts vs (suc_injective e) calls (with_variable k v σ) ∙ sym (first_does (does.Assign (Own k) None) (fields_code (suc k) ts) calls (with_operands (v ∷ vs) σ))
  where
    suc_injective : {m n : ℕ} → suc m ≡ suc n → m ≡ n
    suc_injective e = cc

-- a cursor that is opened, and that the loop may have declared
loop_opens : (own : Bool) (l : Location) (q : Bound Query) (env : Env) (calls : Calls) (k : Runs) (more : List Instruction) → GoesOn k more calls [] → (σ : State)
    → open_at l q env calls k (if own then with_cursor l Closed σ else σ) ≡ run (declared_code own l ++ (open_code l q ++ more)) calls (bare σ)
loop_opens false l q env calls k more h σ = open_same l q env calls k more h σ
loop_opens true l q env calls k more h σ =
    open_same l q env calls k more h (with_cursor l Closed σ)
    ∙ ap (λ τ. run (open_code l q ++ more) calls (bare τ)) (sym (with_cursor_beneath l Closed [] σ))
    ∙ sym (first_does (does.Reset l) (open_code l q ++ more) calls (bare σ))

over_rows_same : (s : Source) (r : Rows) (m : Meaning) (c : Coded) → SameBody m c → (env : Env) (calls : Calls) (σ : State)
    → over_rows s (λ e. m (in_rows r.record s e)) env calls σ ≡ run (over_rows_code s r.record c env) calls (bare σ)
over_rows_same s r m c t env calls σ =
    let ts = map field_type (known_fields s.fields) in
    let head = fetch_code s.location ts (fields_code env.variables ts) (Do does.Exit ∷ []) in
    let body = c (in_rows r.record s env) in
    let fetch = fetch_at s.location ts calls (λ vs ω. done (with_fields env.variables vs ω)) exits in
    loop_opens s.own s.location s.query env calls _ (Closing s.location (Loop head body ∷ []) ∷ []) (λ τ.
    ap (λ o. finally o (with_cursor s.location Closed))
    (loop_beneath _ _ τ
    ∙ loop_same fetch (m (in_rows r.record s env) calls) head body calls
    (λ υ. fetch_same ts calls (λ vs ω. done (with_fields env.variables vs ω)) exits (fields_code env.variables ts) (Do does.Exit ∷ [])
    (λ vs e ω. fields_same env.variables ts vs e calls ω) (λ ω. sym (only_does does.Exit calls (bare ω))) s.location (bare υ))
    (t.by (in_rows r.record s env) calls) (bare τ))
    ∙ sym (only (Closing s.location (Loop head body ∷ [])) _ calls (bare τ) (meaning_of-Closing s.location (Loop head body ∷ [])))) σ

pub rows_same : (s : Option Source) (r : Rows) (m : Meaning) (c : Coded) → SameBody m c → (env : Env) (calls : Calls) (σ : State) → for_rows_of s r m env calls σ ≡ run (rows_code s r c env) calls (bare σ)
rows_same None r m c t env calls σ = sym (only_does does.Broken calls (bare σ))
rows_same (Some s) r m c t env calls σ = over_rows_same s r m c t env calls σ
