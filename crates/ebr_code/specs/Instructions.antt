-- What instructions do: one line for each instruction.
use Rattle.std.specs.Prelude.{ℕ, ◌-◌, Bool, true, false, if◌then◌else◌, List, [], ◌∷◌, ◌++◌, map, take, drop, reverse, Option, Some, None}
use Rattle.ebr_base.specs.declared.value.Value.{Value}
use Rattle.ebr_base.specs.declared.value.Value.TheVariants as value
use Rattle.ebr_exprtree.specs.declared.expression.RowImage.{RowImage}
use Rattle.ebr_exprtree.specs.declared.expression.RowImage.TheVariants as image
use Rattle.ebr_value.specs.declared.form.Place.TheVariants.{Code as InCode}
use Rattle.ebr_value.specs.Forms.{binary, function}
use Rattle.ebr_value.specs.Texts.{printed}
use Rattle.ebr_expr.specs.Operators.{unsigned, decided}
use Rattle.ebr_asks.specs.declared.ask.Ask.TheVariants as ask
use Rattle.ebr_asks.specs.declared.answer.Answer.{Answer}
use Rattle.ebr_asks.specs.declared.answer.Answer.TheVariants as answer
use Rattle.ebr_run.specs.declared.fault.Fault.{Fault}
use Rattle.ebr_run.specs.Faults.{ora, Catches, All, These as OnlyThese, is_caught}
use Rattle.ebr_run.specs.Cursors.{Closed, Open as Opened, is_open, Fetched, Unopened, NoRow, Unfit, Row, fetched, attribute_of}
use Rattle.ebr_run.specs.State.{State, Runs, Normal, Continue, Returned, bare, with_operands, ended, done, raises, broken, then_run, step, loop, caught, finally, line, asked, when_done}
use Rattle.ebr_run.specs.Values.{when_fit, unfit, on_value, on_some, is_true, read, write, cursor_at, with_cursor, moved_on, with_fault, handled_at, number_of, new_at, old_at, set_new, firing, affected_attribute}
use Rattle.ebr_run.specs.Expressions.{Calls, Then, given_back}
use Rattle.ebr_run.specs.Statements.{over_numbers, only_row, affects, changed, transact, exits, result_given}
use Rattle.ebr_code.specs.declared.instruction.Caught.{Caught}
use Rattle.ebr_code.specs.declared.instruction.Caught.TheVariants as caught_by
use Rattle.ebr_code.specs.declared.instruction.Handler.{Handler}
use Rattle.ebr_code.specs.declared.instruction.Lookup.{Lookup}
use Rattle.ebr_code.specs.declared.instruction.Lookup.TheVariants as lookup
use Rattle.ebr_code.specs.declared.instruction.Operation.{Operation}
use Rattle.ebr_code.specs.declared.instruction.Operation.TheVariants as does
use Rattle.ebr_code.specs.declared.instruction.Instruction.{Instruction}
use Rattle.ebr_code.specs.declared.instruction.Instruction.TheOpen.{Instruction-F, Handler-F}
use Rattle.ebr_code.specs.declared.instruction.Instruction.TheOpen as code
use Rattle.ebr_code.specs.declared.instruction.Instruction.TheFolds.{fold-Instruction, fold-Handler}

-- what an instruction does
abbrev pub Meaning : Type 0
Meaning = Calls → Runs

-- ---- operands

abbrev pub push : Value → Runs
push v σ = ended Normal (with_operands (v ∷ σ.memory.operands) σ)

abbrev pub pop_from : List Value → Then → Runs
pop_from [] next σ = broken σ
pop_from (v ∷ vs) next σ = next v (with_operands vs σ)

-- what is done with the topmost operand
abbrev pub pop : Then → Runs
pop next σ = pop_from σ.memory.operands next σ

abbrev pub pop_two : (Value → Value → Runs) → Runs
pop_two next σ = pop (λ y. pop (λ x. next x y)) σ

abbrev pub push_two : Value → Value → Runs
push_two x y σ = ended Normal (with_operands (y ∷ x ∷ σ.memory.operands) σ)

abbrev pub push_three : Value → Value → Value → Runs
push_three x y z σ = ended Normal (with_operands (z ∷ y ∷ x ∷ σ.memory.operands) σ)

-- the last so many operands, the first of them first, and what is beneath them
abbrev pub last : ℕ → State → List Value
last n σ = reverse (take n σ.memory.operands)

abbrev pub beneath : ℕ → State → List Value
beneath n σ = drop n σ.memory.operands

abbrev pub holding : List Value → Runs
holding vs σ = ended Normal (with_operands vs σ)

-- values above operands, the first topmost
abbrev pub above : List Value → List Value → Runs
above operands vs σ = holding (vs ++ operands) σ

-- ---- lists of instructions

abbrev pub run_all : List Meaning → Meaning
run_all [] calls σ = ended Normal σ
run_all (m ∷ ms) calls σ = then_run (m calls σ) (run_all ms calls)

-- ---- answers

abbrev pub rows_to : Lookup → List (List Value) → Runs
rows_to (lookup.Row ts) rows σ = only_row ts rows holding σ
rows_to (lookup.Open l) rows σ = done (with_cursor l (Opened rows 0 None) σ)
rows_to lookup.Count rows σ = broken σ

abbrev pub count_to : Lookup → Answer → Runs
count_to lookup.Count a σ = changed a σ
count_to l a σ = broken σ

-- what is done with an answer that is no refusal
abbrev pub looked_up : Lookup → Answer → Runs
looked_up l (answer.Rows rows) σ = rows_to l rows σ
looked_up l a σ = count_to l a σ

-- ---- cursors

abbrev pub row_fetched : Fetched → Runs
row_fetched Unopened σ = raises (ora 1001) σ
row_fetched NoRow σ = holding (value.Bool false ∷ []) σ
row_fetched Unfit σ = raises (ora 932) σ
row_fetched (Row vs) σ = holding (value.Bool true ∷ vs) σ

-- ---- handlers

abbrev pub catches : Caught → Catches
catches caught_by.Others = All
catches (caught_by.These fs) = OnlyThese fs

pub record Handling : Type 0 where
  pub caught : Caught
  pub run : Meaning

abbrev pub handled : ℕ → List Handling → Calls → Fault → Runs
handled k [] calls f σ = raises f σ
handled k (h ∷ hs) calls f σ = if is_caught (catches h.caught) f then h.run calls (with_fault k f (bare σ)) else handled k hs calls f σ

-- ---- instructions

abbrev pub load_column : RowImage → ℕ → Then → Runs
load_column image.New k next σ = new_at k next σ
load_column image.Old k next σ = old_at k next σ

abbrev pub over_operands : ℕ → Bool → Meaning → Calls → Runs
over_operands k reversed body calls σ = pop_two (λ low high τ. over_numbers k reversed low high (body calls) (bare τ)) σ

abbrev pub decide : Option Value → Value → Meaning → Calls → Runs
decide (Some v) x rest calls σ = push v σ
decide None x rest calls σ = then_run (push x σ) (rest calls)

-- what an operation does
abbrev pub operate : Operation → Meaning
operate does.Step calls σ = step σ done
operate (does.Push v) calls σ = push v σ
operate does.Copy calls σ = pop (λ x. push_two x x) σ
operate does.Over calls σ = pop_two (λ x y. push_three x y x) σ
operate does.Nip calls σ = pop_two (λ x y. push y) σ
operate does.Drop calls σ = pop (λ x. ended Normal) σ
operate (does.Load l) calls σ = read l push σ
operate (does.Assign l t) calls σ = pop (λ v τ. when_fit (unfit t v) (λ υ. ended Normal (write l v υ)) τ) σ
operate (does.LoadColumn i k) calls σ = load_column i k push σ
operate (does.AssignNew k t) calls σ = pop (λ v. when_fit (unfit (Some t) v) (set_new k v)) σ
operate (does.Firing o) calls σ = firing o push σ
operate (does.SqlCode k) calls σ = handled_at k (λ f. push (number_of f)) σ
operate (does.Affected a) calls σ = push (affected_attribute a σ.affected) σ
operate (does.Attribute l a) calls σ = on_some (attribute_of a (cursor_at l σ)) (ora 1001) push σ
operate (does.Binary o) calls σ = pop_two (λ x y. on_value (binary o x y InCode) push) σ
operate (does.Function f n) calls σ = on_value (function f (last n σ) InCode) push (with_operands (beneath n σ) σ)
operate does.Unsigned calls σ = pop (λ x. on_value (unsigned x) push) σ
operate (does.Refer r p) calls σ = then_run (calls.refer r p (bare σ)) (holding σ.memory.operands)
operate (does.Call f) calls σ = given_back f.results (calls.call f (last f.arguments σ) (bare σ)) (above (beneath f.arguments σ))
operate does.Return calls σ = ended Returned (bare σ)
operate (does.Give t) calls σ = pop (result_given t) σ
operate (does.Raise f) calls σ = raises f σ
operate (does.Reraise k) calls σ = handled_at k raises σ
operate does.Exit calls σ = exits σ
operate does.Continue calls σ = ended Continue (bare σ)
operate does.PutLine calls σ = pop (λ v. line (printed v)) σ
operate (does.Sql s n l) calls σ = asked (ask.Sql s (last n σ) (σ.left - σ.steps)) (bare σ) (looked_up l)
operate (does.Transact t) calls σ = asked (transact t) (bare σ) (λ a. when_done a done)
operate (does.Affect n) calls σ = affects n σ
operate (does.Open l) calls σ = if is_open (cursor_at l σ) then raises (ora 6511) σ else ended Normal σ
operate (does.Reset l) calls σ = done (with_cursor l Closed σ)
operate (does.Fetch l ts) calls σ = row_fetched (fetched ts (cursor_at l σ)) (moved_on l σ)
operate (does.Close l) calls σ = if is_open (cursor_at l σ) then done (with_cursor l Closed σ) else raises (ora 1001) σ
operate does.Broken calls σ = broken σ

-- An instruction, with what its parts do in their places.
abbrev pub act : Instruction-F Meaning Handling → Meaning
act (code.Do o) calls σ = operate o calls σ
act (code.Decide o a) calls σ = pop (λ x. decide (decided o x) x (run_all a) calls) σ
act (code.If a b) calls σ = pop (λ v τ. if is_true v then run_all a calls τ else run_all b calls τ) σ
act (code.Loop head body) calls σ = loop (run_all head calls) (run_all body calls) σ
act (code.Numbers k reversed body) calls σ = over_operands k reversed (run_all body) calls σ
act (code.Guard a k hs) calls σ = caught (run_all a calls σ) (handled k hs calls)
act (code.Closing l a) calls σ = finally (run_all a calls σ) (with_cursor l Closed)

abbrev pub handler : Handler-F Meaning Handling → Handling
handler h = record { caught = h.caught; run = run_all h.body }

unfoldable pub meaning_of : Instruction → Meaning
meaning_of = fold-Instruction Meaning Handling act handler

unfoldable pub handling_of : Handler → Handling
handling_of = fold-Handler Meaning Handling act handler

-- what a list of instructions does
abbrev pub run : List Instruction → Meaning
run code = run_all (map meaning_of code)
