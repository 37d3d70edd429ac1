-- The rows of a statement with their triggers.
-- Oracle Database PL/SQL Language Reference 19c, Triggers. The order of the tests of a row is own.
use Rattle.std.specs.Prelude.{ℕ, List, [], ◌∷◌, length, Result, Ok}
use Rattle.ebr_base.specs.declared.code.Code.{Code}
use Rattle.ebr_base.specs.declared.value.Value.{Value}
use Rattle.ebr_exprtree.specs.declared.op.Op.{Op}
use Rattle.ebr_tx.specs.Data.{Data}
use Rattle.ebr_dml.specs.declared.plan.Plan.{Plan}
use Rattle.ebr_dml.specs.declared.taken.Taken.{Taken}
use Rattle.ebr_dml.specs.Images.{old_values, new_values, after_values}
use Rattle.ebr_dml.specs.Tests.{written}
use Rattle.ebr_database.specs.Base.{with_data}
use Rattle.ebr_database.specs.Outcome.{Outcome, gives, go_on, then_run}
use Rattle.ebr_bodies.specs.Ready.{Ready}
use Rattle.ebr_bodies.specs.Bodies.{Site, Doing, bodies}

-- What is done to the rows of a statement, and which bodies run before and after each.
pub record Work : Type 0 where
  pub plan : Plan
  pub binds : List Value
  pub operation : Op
  pub before : List Ready
  pub after : List Ready

abbrev pub at_data : Data → Doing → Doing
at_data d σ = record σ { base = with_data d σ.base }

-- the row is changed, and its AFTER triggers run
abbrev pub changed : Site → Work → Taken → List Value → Doing → Outcome Doing (Result (List Value) Code)
changed w k r new σ =
    go_on (λ d σ'. bodies w k.operation k.after (old_values k.plan r) (after_values k.plan new) (at_data d σ')) (written σ.base.data_now w.tx k.plan r new) σ

-- One row: its new values; its BEFORE triggers; its tests, and its change with what they left; its AFTER triggers.
abbrev pub one_row : Site → Work → Taken → Doing → Outcome Doing (Result (List Value) Code)
one_row w k r σ =
    go_on (λ new σ'. then_run (bodies w k.operation k.before (old_values k.plan r) new σ') (changed w k r)) (new_values k.plan k.binds r) σ

-- One row after the other, and at their end so many.
abbrev pub rows : Site → Work → ℕ → List Taken → Doing → Outcome Doing (Result ℕ Code)
rows w k n [] σ = gives σ (Ok n)
rows w k n (r ∷ rest) σ = then_run (one_row w k r σ) (λ new σ'. rows w k n rest σ')

-- all of them, and how many they are
abbrev pub all_rows : Site → Work → List Taken → Doing → Outcome Doing (Result ℕ Code)
all_rows w k taken σ = rows w k (length taken) taken σ

-- the rows that WHERE took, or the code that it raised
abbrev pub rows_of : Site → Work → Result (List Taken) Code → Doing → Outcome Doing (Result ℕ Code)
rows_of w k found σ = go_on (all_rows w k) found σ
