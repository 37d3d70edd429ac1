use Rattle.std.proofs.Common.{◌≡◌}
use Rattle.std.specs.Prelude.{replicate}
use Rattle.ebr_seats.specs.Seats.{first_seat}
use Rattle.ebr_seats.proofs.seat.first_seats.Given as goal

-- the seats so far
abbrev pub invariant-loop-turn : goal.invariant-loop-turn
invariant-loop-turn l = l.seats.items ≡ replicate l._turn (first_seat l.fn.e)
