use Rattle.std.proofs.Common.{◌≡◌, take}
use Rattle.std.specs.Prelude.{min, sum_by}
use Rattle.ebr_database.specs.Carried.{value_weight}
use Rattle.ebr_seats.proofs.carried.row_weight.Given as goal

-- the weight so far
abbrev pub invariant-loop-value : goal.invariant-loop-value
invariant-loop-value l = l.weight ≡ min 16777217 (sum_by value_weight (take l.value-index l.values))
