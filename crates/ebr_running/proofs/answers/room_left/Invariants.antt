use Rattle.std.proofs.Common.{◌≡◌, drop, Some}
use Rattle.ebr_run.specs.State.{Row, room_behind}
use Rattle.ebr_running.proofs.answers.room_left.Given as goal

abbrev pub invariant-loop-line : goal.invariant-loop-line
invariant-loop-line l = (row : Row) → room_behind (Some row) (drop l.line-index l.lines) l.left ≡ room_behind (Some row) l.lines l.room
