-- What is read and then used, and the code that puts it on the operands.
use Rattle.std.proofs.Common.{◌≡◌, ℕ, List, [], ◌∷◌, ◌++◌, Option, Some, None, Ok, Err, refl, sym, ap, ◌∙◌, append_assoc}
use Rattle.std.specs.Prelude.{slice_get}
use Rattle.ebr_base.specs.declared.object.Class.{Class}
use Rattle.ebr_base.specs.declared.object.Class.TheVariants as class
use Rattle.ebr_base.specs.declared.value.Value.{Value}
use Rattle.ebr_value.specs.Outcomes.{Outcome as Computed}
use Rattle.ebr_scope.specs.Meanings.{Word}
use Rattle.ebr_run.specs.declared.callee.Reference.{Reference}
use Rattle.ebr_run.specs.declared.callee.Reference.TheVariants as reference
use Rattle.ebr_run.specs.declared.fault.Fault.{Fault}
use Rattle.ebr_run.specs.declared.place.Location.{Location}
use Rattle.ebr_run.specs.declared.place.Location.TheVariants.{Own, Member}
use Rattle.ebr_run.specs.Cursors.{Cursor}
use Rattle.ebr_run.specs.Packages.{PackageState, state_of}
use Rattle.ebr_run.specs.State.{State, Runs, Row, bare, with_operands, ended, Normal, then_run, broken}
use Rattle.ebr_run.specs.Values.{on_value, on_some, on_member, on_fault, on_row, in_row, handled_at, read, variable, write, cursor_at, with_cursor}
use Rattle.ebr_run.specs.Expressions.{Calls, Then, Reading, referred, referring, located}
use Rattle.ebr_code.specs.declared.instruction.Instruction.{Instruction, Do}
use Rattle.ebr_code.specs.declared.instruction.Operation.{Operation}
use Rattle.ebr_code.specs.declared.instruction.Operation.TheVariants as does
use Rattle.ebr_code.specs.Instructions.{push, operate, holding, run}
use Rattle.ebr_code.specs.Codes.{Coded, refer_code, load_code, refer_unit}
use Rattle.ebr_laws.proofs.Lists.{then_assoc, then_same, first_does}

-- ---- what goes on

-- the rest of the code goes on with a value on the operands
abbrev pub Goes : Then → List Instruction → Calls → List Value → Type 0
Goes next more calls operands = (v : Value) (τ : State) → next v τ ≡ run more calls (with_operands (v ∷ operands) τ)

abbrev pub GoesOn : Runs → List Instruction → Calls → List Value → Type 0
GoesOn next more calls operands = (τ : State) → next τ ≡ run more calls (with_operands operands τ)

-- Something is read and used; the code puts it on these operands, where those were before.
pub record Same (r : Then → Runs) (c : List Instruction) (calls : Calls) (before operands : List Value) : Type 0 where
  pub by : (next : Then) (more : List Instruction) → Goes next more calls operands → (σ : State) → r next σ ≡ run (c ++ more) calls (with_operands before σ)

pub record SameReading (r : Reading) (c : Coded) : Type 0 where
  pub by : (env : _) (calls : Calls) (operands : List Value) → Same (r env calls) (c env) calls operands operands

-- ---- one behind the other

-- the same code, written otherwise
pub recoded : {r : Then → Runs} {c d : List Instruction} {calls : Calls} {before operands : List Value} → c ≡ d → Same r c calls before operands → Same r d calls before operands
recoded {calls = calls} {before} e s = record { by = λ next more h σ. s.by next more h σ ∙ ap (λ z. run (z ++ more) calls (with_operands before σ)) e }

pub chained : (r : Then → Runs) (k : Value → Then → Runs) (c d : List Instruction) (calls : Calls) (before between operands : List Value) → Same r c calls before between
    → ((v : Value) → Same (k v) d calls (v ∷ between) operands) → Same (λ next. r (λ v τ. k v next τ)) (c ++ d) calls before operands
chained r k c d calls before between operands s t = record {
  by = λ next more h σ.
      s.by (λ v τ. k v next τ) (d ++ more) (λ v τ. (t v).by next more h τ) σ
      ∙ ap (λ z. run z calls (with_operands before σ)) (sym (append_assoc c d more));
}

-- what does nothing more
pub nothing_more : (v : Value) (calls : Calls) (operands : List Value) → Same (λ next. next v) [] calls (v ∷ operands) operands
nothing_more v calls operands = record { by = λ next more h σ. h v σ }

-- an operation alone
pub by_operation : (o : Operation) (r : Then → Runs) (calls : Calls) (before operands : List Value)
    → ((next : Then) (more : List Instruction) → Goes next more calls operands → (σ : State) → r next σ ≡ then_run (operate o calls (with_operands before σ)) (run more calls))
    → Same r (Do o ∷ []) calls before operands
by_operation o r calls before operands e = record { by = λ next more h σ. e next more h σ ∙ sym (first_does o more calls (with_operands before σ)) }

-- an operation that only puts the operands otherwise, before others
pub behind_operation : (o : Operation) (r : Then → Runs) (c : List Instruction) (calls : Calls) (first before operands : List Value)
    → ((σ : State) → operate o calls (with_operands first σ) ≡ ended Normal (with_operands before σ)) → Same r c calls before operands → Same r (Do o ∷ c) calls first operands
behind_operation o r c calls first before operands e s = record {
  by = λ next more h σ.
      s.by next more h σ ∙ ap (λ z. then_run z (run (c ++ more) calls)) (sym (e σ)) ∙ sym (first_does o (c ++ more) calls (with_operands first σ));
}

pub nothing_known : (calls : Calls) (before operands : List Value) → Same (λ next σ. broken σ) (Do does.Broken ∷ []) calls before operands
nothing_known calls before operands = by_operation does.Broken (λ next σ. broken σ) calls before operands (λ next more h σ. refl)

-- ---- values that are pushed

-- what is used where it is there is what is pushed and then used
abbrev pub Pushes : (Then → Runs) → Type 0
Pushes r = (next : Then) (more : List Instruction) (calls : Calls) (operands : List Value) → Goes next more calls operands → (σ : State) → r next σ ≡ then_run (r push (with_operands operands σ)) (run more calls)

pub value_pushes : (x : Computed) → Pushes (on_value x)
value_pushes (Ok v) next more calls operands h σ = h v σ
value_pushes (Err c) next more calls operands h σ = refl

pub some_pushes : (x : Option Value) (f : Fault) → Pushes (on_some x f)
some_pushes (Some v) f next more calls operands h σ = h v σ
some_pushes None f next more calls operands h σ = refl

member_pushes : (s : Option PackageState) (get : PackageState → Value) → Pushes (λ next. on_member s (λ p. next (get p)))
member_pushes None get next more calls operands h σ = refl
member_pushes (Some p) get next more calls operands h σ = h (get p) σ

pub read_pushes : (l : Location) → Pushes (read l)
read_pushes (Own k) next more calls operands h σ = h (variable k σ) σ
read_pushes (Member p k) next more calls operands h σ = member_pushes (state_of p σ.packages) _ next more calls operands h σ

fault_pushes : (f : Option Fault) (get : Fault → Value) → Pushes (λ next. on_fault f (λ x. next (get x)))
fault_pushes None get next more calls operands h σ = refl
fault_pushes (Some f) get next more calls operands h σ = h (get f) σ

pub handled_pushes : (k : ℕ) (get : Fault → Value) → Pushes (λ next. handled_at k (λ f. next (get f)))
handled_pushes k get next more calls operands h σ = fault_pushes (slice_get σ.memory.faults k) get next more calls operands h σ

row_pushes : (r : Option Row) (get : Row → Value) → Pushes (λ next. on_row r (λ x. next (get x)))
row_pushes None get next more calls operands h σ = refl
row_pushes (Some r) get next more calls operands h σ = h (get r) σ

pub in_row_pushes : (get : Row → Value) → Pushes (λ next. in_row (λ r. next (get r)))
in_row_pushes get next more calls operands h σ = row_pushes σ.row get next more calls operands h σ

-- ---- packages

-- a reference to a package, and then the rest
pub refers : (r : Reference) (p : Word) (calls : Calls) (operands : List Value) (next : Runs) (more : List Instruction) → GoesOn next more calls operands → (σ : State)
    → then_run (calls.refer r p (bare σ)) next ≡ run (Do (does.Refer r p) ∷ more) calls (with_operands operands σ)
refers r p calls operands next more h σ =
    then_same (calls.refer r p (bare σ)) next (λ τ. run more calls (with_operands operands τ)) h
    ∙ sym (then_assoc (calls.refer r p (bare σ)) (holding operands) (run more calls))
    ∙ sym (first_does (does.Refer r p) more calls (with_operands operands σ))

pub referred_same : (l : Location) (calls : Calls) (operands : List Value) (next : Runs) (more : List Instruction) → GoesOn next more calls operands → (σ : State)
    → referred l calls next σ ≡ run (refer_code l ++ more) calls (with_operands operands σ)
referred_same (Own k) calls operands next more h σ = h σ
referred_same (Member p k) calls operands next more h σ = refers reference.Data p calls operands next more h σ

pub referring_same : (c : Class) (p : Word) (calls : Calls) (operands : List Value) (next : Runs) (more : List Instruction) → GoesOn next more calls operands → (σ : State)
    → referring c p calls next σ ≡ run (refer_unit c p ++ more) calls (with_operands operands σ)
referring_same class.Body p calls operands next more h σ = refers reference.Other p calls operands next more h σ
referring_same class.Unit p calls operands next more h σ = h σ
referring_same class.Trigger p calls operands next more h σ = h σ

-- a reference, and then an operation that pushes
pub referred_pushes : (l : Location) (o : Operation) (r : Then → Runs) (calls : Calls) (operands : List Value) → ((σ : State) → operate o calls σ ≡ r push σ) → Pushes r
    → Same (λ next. referred l calls (r next)) (refer_code l ++ Do o ∷ []) calls operands operands
referred_pushes l o r calls operands e p = record {
  by = λ next more h σ.
      referred_same l calls operands (r next) (Do o ∷ more) (λ τ.
      p next more calls operands h τ ∙ ap (λ z. then_run z (run more calls)) (sym (e (with_operands operands τ))) ∙ sym (first_does o more calls (with_operands operands τ))) σ
      ∙ ap (λ z. run z calls (with_operands operands σ)) (sym (append_assoc (refer_code l) (Do o ∷ []) more));
}

pub located_same : (l : Location) (calls : Calls) (operands : List Value) → Same (located l calls) (load_code l) calls operands operands
located_same l calls operands = referred_pushes l (does.Load l) (read l) calls operands (λ σ. refl) (read_pushes l)

-- ---- operands don't matter to what stands at a place

pub cursor_beneath : (l : Location) (vs : List Value) (σ : State) → cursor_at l (with_operands vs σ) ≡ cursor_at l σ
cursor_beneath (Own k) vs σ = refl
cursor_beneath (Member p k) vs σ = refl

pub with_cursor_beneath : (l : Location) (c : Cursor) (vs : List Value) (σ : State) → with_cursor l c (with_operands vs σ) ≡ with_operands vs (with_cursor l c σ)
with_cursor_beneath (Own k) c vs σ = refl
with_cursor_beneath (Member p k) c vs σ = refl

pub write_beneath : (l : Location) (v : Value) (vs : List Value) (σ : State) → write l v (with_operands vs σ) ≡ with_operands vs (write l v σ)
write_beneath (Own k) v vs σ = refl
write_beneath (Member p k) v vs σ = refl
