-- The instructions of a code from a place on.
use Rattle.std.proofs.Common.{◌≡◌, ℕ, zero, suc, ◌+◌, List, [], ◌∷◌, drop, Some, None, refl, sym, ap, ◌∙◌, add-one}
use Rattle.std.specs.Prelude.{slice_get}
use Rattle.ebr_run.specs.Expressions.{Calls}
use Rattle.ebr_run.specs.State.{State, Outcome, End, Normal, Exit, Continue, Returned, Raised, Stopped, Waiting, ended, then_run}
use Rattle.ebr_code.specs.declared.instruction.Instruction.{Instruction}
use Rattle.ebr_code.specs.Instructions.{meaning_of, run}

drop_at : (body : List Instruction) (i : ℕ) (s : Instruction) → Some s ≡ slice_get body i → drop i body ≡ s ∷ drop (suc i) body
drop_at [] i s e = cc
drop_at (x ∷ body) zero s e = cc
drop_at (x ∷ body) (suc i) s e = drop_at body i s e

drop_past : (body : List Instruction) (i : ℕ) → None ≡ slice_get body i → drop i body ≡ []
drop_past [] zero e = refl
drop_past [] (suc i) e = refl
drop_past (x ∷ body) zero e = cc
drop_past (x ∷ body) (suc i) e = drop_past body i e

-- from a place with an instruction on
pub run_at : (body : List Instruction) (i : ℕ) (s : Instruction) (calls : Calls) (σ : State) → Some s ≡ slice_get body i → run (drop i body) calls σ ≡ then_run (meaning_of s calls σ) (run (drop (i + 1) body) calls)
run_at body i s calls σ e =
    ap (λ l. run l calls σ) (drop_at body i s e) ∙ ap (λ n. then_run (meaning_of s calls σ) (run (drop n body) calls)) (sym (add-one i))

pub run_past : (body : List Instruction) (i : ℕ) (calls : Calls) (σ : State) → None ≡ slice_get body i → run (drop i body) calls σ ≡ ended Normal σ
run_past body i calls σ e = ap (λ l. run l calls σ) (drop_past body i e)

-- nothing comes then
pub then_nothing : (o : Outcome) → then_run o (ended Normal) ≡ o
then_nothing o = by_end o.end o.state
  where
    by_end : (e : End) (σ : State) → then_run (ended e σ) (ended Normal) ≡ ended e σ
    by_end Normal σ = refl
    by_end Exit σ = refl
    by_end Continue σ = refl
    by_end Returned σ = refl
    by_end (Raised f) σ = refl
    by_end (Stopped c) σ = refl
    by_end Waiting σ = refl
