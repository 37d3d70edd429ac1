use Rattle.std.proofs.Common.{◌≡◌, ◌≤◌, ◌+◌, length, vec_len, None}
use Rattle.ebr_turn.specs.declared.view.Stage.TheVariants.{Idle}
use Rattle.ebr_turntests.specs.Rows.{AllWritten, Gathers}
use Rattle.ebr_turntests.proofs.writers.join_all.Given as goal

abbrev pub invariant-loop-writer : goal.invariant-loop-writer
invariant-loop-writer l =
    (l.first.turn ≡ l.fn.first.turn) × (l.first.view.stage ≡ Idle) × (l.first.view.number ≡ None) × (l.first.view.share + length l.seats.items ≡ l.fn.first.view.share + length l.fn.seats.items)
    × AllWritten l.fn.turn.id l.fn.count l.seats.items × Gathers l.fn.count (length l.seats.items) (length l.fn.seats.items) l.first.view × (length l.seats.items ≤ length l.fn.seats.items)

abbrev pub decreases-loop-writer : goal.decreases-loop-writer
decreases-loop-writer l = vec_len l.seats
