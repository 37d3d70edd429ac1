-- Whether rows fit what takes them.
use Rattle.std.specs.Prelude.{Bool, false, List, [], ◌∷◌}
use Rattle.ebr_base.specs.declared.value.Value.{Value}
use Rattle.ebr_sqlcheck.specs.Types.{Known}
use Rattle.ebr_run.specs.Cursors as run
use Rattle.ebr_run.specs.Cursors.{row_fits}
use Rattle.ebr_memory.specs.declared.cursor.Fetched.{Fetched}
use Rattle.ebr_memory.specs.declared.cursor.Fetched.TheVariants as fetched

-- whether the first row fits; none doesn't
abbrev pub first_fits : List Known → List (List Value) → Bool
first_fits ts [] = false
first_fits ts (row ∷ rows) = row_fits ts row

-- what a fetch gives, as runs see it
abbrev pub fetched_of : Fetched → run.Fetched
fetched_of fetched.Unopened = run.Unopened
fetched_of fetched.NoRow = run.NoRow
fetched_of fetched.Unfit = run.Unfit
fetched_of (fetched.Row vs) = run.Row vs
