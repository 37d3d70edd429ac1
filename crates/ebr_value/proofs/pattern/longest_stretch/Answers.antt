use Rattle.ebr_value.proofs.Stretches.{next_underscore, next_longer, next_other}
use Rattle.ebr_value.proofs.pattern.longest_stretch.Goals as goal
use Rattle.ebr_value.proofs.pattern.longest_stretch.Goals.{then-byte-eq95, else-byte-eq95+then-end-start, else-byte-eq95+else-end-start}

pub loop-i-preserved : goal.loop-i-preserved
loop-i-preserved c =
    elim c.if-byte-eq95.branch [
      | then-byte-eq95 w ↦ rw (w.from-is, w.start-is, w.end-is) (next_underscore c.args.part.now c.loop-i.i _ _ _ c.loop-i-test.true w.if-byte-eq95.true c.loop-i.invariant)
      | else-byte-eq95+then-end-start w ↦ rw (w.from-is, w.start-is, w.end-is) (next_longer c.args.part.now c.loop-i.i _ _ _ c.loop-i-test.true w.if-byte-eq95.false w.if-end-start.true c.loop-i.invariant)
      | else-byte-eq95+else-end-start w ↦ rw (w.from-is, w.start-is, w.end-is) (next_other c.args.part.now c.loop-i.i _ _ _ c.loop-i-test.true w.if-byte-eq95.false w.if-end-start.false c.loop-i.invariant)
    ]
