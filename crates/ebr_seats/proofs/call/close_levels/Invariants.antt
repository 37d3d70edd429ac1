use Rattle.std.proofs.Common.{◌-◌}
use Rattle.ebr_seats.proofs.Calls.{Closing}
use Rattle.ebr_seats.proofs.call.close_levels.Given as goal

-- so many are left to close
abbrev pub invariant-loop-turn : goal.invariant-loop-turn
invariant-loop-turn l = Closing l.initial.tx.contents l.tx.contents l.s l.levels (l.levels - l._turn)
