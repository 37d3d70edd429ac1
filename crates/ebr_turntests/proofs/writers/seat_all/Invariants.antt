use Rattle.std.proofs.Common.{◌≡◌, ◌+◌, ◌≤◌, length, vec_capacity}
use Rattle.ebr_turntests.specs.Rows.{gave, AllNew}
use Rattle.ebr_turntests.proofs.writers.seat_all.Given as goal

abbrev pub invariant-loop-before : goal.invariant-loop-before
invariant-loop-before l =
    (l.first.turn ≡ l.fn.first.turn) × (l.first.view ≡ gave l.before (l.fn.writers + 1)) × (length l.seats.items ≡ l.before) × AllNew l.fn.first.turn l.fn.count l.seats.items × (l.fn.writers ≤ vec_capacity l.seats)
