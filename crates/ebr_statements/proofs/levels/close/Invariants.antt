use Rattle.ebr_statements.proofs.Opening.{Closing}
use Rattle.ebr_statements.proofs.levels.close.Given as goal

-- so many are left to close
abbrev pub invariant-loop-turn : goal.invariant-loop-turn
invariant-loop-turn l = Closing l.initial.tx.contents l.tx.contents l.t l.opened l._turn
