use Rattle.std.proofs.Common.{◌≡◌, take}
use Rattle.std.specs.Prelude.{min, sum_by}
use Rattle.ebr_database.specs.Carried.{row_weight}
use Rattle.ebr_seats.proofs.carried.rows_weight.Given as goal

-- the weight so far
abbrev pub invariant-loop-row : goal.invariant-loop-row
invariant-loop-row l = l.weight ≡ min 16777217 (sum_by row_weight (take l.row-index l.rows))
