-- A writer before and after its work.
use Rattle.std.specs.Prelude.{◌≡◌, ◌≤◌, Some}
use Rattle.ebr_turn.specs.declared.view.Stage.TheVariants.{Idle}
use Rattle.ebr_turntests.specs.declared.writer.Writer.{Writer}
use Rattle.ebr_turntests.specs.Written.{wrote}

abbrev pub IsReady : Writer → Type 0
IsReady w = (w.chair.view.stage ≡ Idle) × (w.chair.view.number ≡ Some w.number) × (w.count ≤ w.chair.view.left)

abbrev pub Wrote : Writer → Writer → Type 0
Wrote w w' = (w'.chair.turn ≡ w.chair.turn) × (w'.chair.view ≡ wrote w.count w.chair.view)
