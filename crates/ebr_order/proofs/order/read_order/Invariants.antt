use Rattle.ebr_order.proofs.Reading.{UpTo}
use Rattle.ebr_order.proofs.order.read_order.Given as goal

-- the bytes so far are right
abbrev pub invariant-loop-at : goal.invariant-loop-at
invariant-loop-at l = UpTo l.sessions l.bytes l.at l.inside l.turns
