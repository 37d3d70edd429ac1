use Rattle.std.proofs.Common.{◌≡◌, take}
use Rattle.std.specs.List.{filter_map}
use Rattle.ebr_seats.specs.declared.seat.Seat.{Seat}
use Rattle.ebr_seats.proofs.seat.editions_in_use.Given as goal

-- those of the seats so far
abbrev pub invariant-loop-seat : goal.invariant-loop-seat
invariant-loop-seat l = l.editions ≡ filter_map (λ (x : Seat). x.edition) (take l.seat-index l.seats)
