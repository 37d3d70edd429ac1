use Rattle.std.proofs.Common.{◌≡◌, take}
use Rattle.std.specs.Prelude.{min, sum_by}
use Rattle.ebr_database.specs.Carried.{line_weight}
use Rattle.ebr_seats.proofs.carried.lines_weight.Given as goal

-- the weight so far
abbrev pub invariant-loop-line : goal.invariant-loop-line
invariant-loop-line l = l.weight ≡ min 16777217 (sum_by line_weight (take l.line-index l.lines))
