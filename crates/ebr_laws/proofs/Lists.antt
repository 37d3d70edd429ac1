-- Lists of instructions, and what single instructions do.
use Rattle.std.proofs.Common.{◌≡◌, List, [], ◌∷◌, ◌++◌, refl, sym, ap, ◌∙◌}
use Rattle.ebr_run.specs.State.{State, Runs, Outcome, End, Normal, Exit, Continue, Returned, Raised, Stopped, Waiting, ended, then_run}
use Rattle.ebr_run.specs.Expressions.{Calls}
use Rattle.ebr_code.specs.declared.instruction.Operation.{Operation}
use Rattle.ebr_code.specs.declared.instruction.Instruction.{Instruction, Do}
use Rattle.ebr_code.specs.Instructions.{Meaning, operate, meaning_of, run}
use Rattle.ebr_code.proofs.Layers.{meaning_of-Do}

-- ---- one after the other

pub then_assoc : (o : Outcome) (a b : Runs) → then_run (then_run o a) b ≡ then_run o (λ τ. then_run (a τ) b)
then_assoc o a b = by_end o.end o.state
  where
    by_end : (e : End) (σ : State) → then_run (then_run (ended e σ) a) b ≡ then_run (ended e σ) (λ τ. then_run (a τ) b)
    by_end Normal σ = refl
    by_end Exit σ = refl
    by_end Continue σ = refl
    by_end Returned σ = refl
    by_end (Raised f) σ = refl
    by_end (Stopped c) σ = refl
    by_end Waiting σ = refl

pub then_nothing : (o : Outcome) → then_run o (ended Normal) ≡ o
then_nothing o = by_end o.end o.state
  where
    by_end : (e : End) (σ : State) → then_run (ended e σ) (ended Normal) ≡ ended e σ
    by_end Normal σ = refl
    by_end Exit σ = refl
    by_end Continue σ = refl
    by_end Returned σ = refl
    by_end (Raised f) σ = refl
    by_end (Stopped c) σ = refl
    by_end Waiting σ = refl

-- the same then where what comes then is the same
pub then_same : (o : Outcome) (a b : Runs) → ((τ : State) → a τ ≡ b τ) → then_run o a ≡ then_run o b
then_same o a b e = ap (then_run o) (λ i τ. e τ i)

pub run_append : (a b : List Instruction) (calls : Calls) (σ : State) → run (a ++ b) calls σ ≡ then_run (run a calls σ) (run b calls)
run_append [] b calls σ = refl
run_append (i ∷ a) b calls σ =
    then_same (meaning_of i calls σ) _ _ (run_append a b calls) ∙ sym (then_assoc (meaning_of i calls σ) (run a calls) (run b calls))

-- ---- instructions

-- the first instruction of several, by what it does
pub first : (i : Instruction) (m : Meaning) (more : List Instruction) (calls : Calls) (σ : State) → meaning_of i ≡ m → run (i ∷ more) calls σ ≡ then_run (m calls σ) (run more calls)
first i m more calls σ e = ap (λ x. then_run (x calls σ) (run more calls)) e

-- the first instruction, which holds no code
pub first_does : (o : Operation) (more : List Instruction) (calls : Calls) (σ : State) → run (Do o ∷ more) calls σ ≡ then_run (operate o calls σ) (run more calls)
first_does o more calls σ = first (Do o) (operate o) more calls σ (meaning_of-Do o)

-- the only instruction
pub only : (i : Instruction) (m : Meaning) (calls : Calls) (σ : State) → meaning_of i ≡ m → run (i ∷ []) calls σ ≡ m calls σ
only i m calls σ e = first i m [] calls σ e ∙ then_nothing (m calls σ)

pub only_does : (o : Operation) (calls : Calls) (σ : State) → run (Do o ∷ []) calls σ ≡ operate o calls σ
only_does o calls σ = only (Do o) (operate o) calls σ (meaning_of-Do o)
