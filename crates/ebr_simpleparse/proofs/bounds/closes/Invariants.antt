use Rattle.ebr_simpleparse.proofs.Closing.{Closing}
use Rattle.ebr_simpleparse.proofs.bounds.closes.Given as goal

abbrev pub invariant-loop-at : goal.invariant-loop-at
invariant-loop-at l = Closing l.depth l.at l.fn.from l.fn.tokens
