use Rattle.ebr_value.proofs.Stretches.{StretchesTo}
use Rattle.ebr_value.proofs.pattern.longest_stretch.Given as goal

abbrev pub invariant-loop-i : goal.invariant-loop-i
invariant-loop-i l = StretchesTo l.part l.i l.from l.start l.end
