-- More rows than one.
use Rattle.std.proofs.Common.{◌≡◌, ◌<◌, List, [], ◌∷◌, length, refl, arith}
use Rattle.ebr_base.specs.declared.value.Value.{Value}
use Rattle.ebr_sqlcheck.specs.Types.{Known}
use Rattle.ebr_run.specs.Faults.{ora}
use Rattle.ebr_run.specs.State.{State, Runs, raises}
use Rattle.ebr_run.specs.Statements.{only_row}

pub several_rows : (ts : List Known) (row : List Value) (others : List (List Value)) (next : List Value → Runs) (σ : State) → 0 < length others
    → only_row ts (row ∷ others) next σ ≡ raises (ora 1422) σ
several_rows ts row [] next σ h = absurd (omega (arith, h))
several_rows ts row (other ∷ others) next σ h = refl
