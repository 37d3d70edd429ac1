use Rattle.std.proofs.Common.{◌≡◌}
use Rattle.ebr_turntests.specs.Written.{wrote}
use Rattle.ebr_turntests.proofs.writers.write.Given as goal

abbrev pub invariant-loop-i : goal.invariant-loop-i
invariant-loop-i g l =
    (l.writer.chair.turn ≡ l.fn.writer.chair.turn) × (l.writer.chair.view ≡ wrote l.i l.fn.writer.chair.view) × (l.writer.number ≡ l.fn.writer.number) × (l.writer.count ≡ l.fn.writer.count)
