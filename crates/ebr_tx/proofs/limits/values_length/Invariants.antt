use Rattle.std.proofs.Common.{◌≡◌, take}
use Rattle.std.specs.Prelude.{min, sum_by}
use Rattle.ebr_tx.specs.Limits.{value_length}
use Rattle.ebr_tx.proofs.limits.values_length.Given as goal

-- the bytes so far
abbrev pub invariant-loop-value : goal.invariant-loop-value
invariant-loop-value l = l.length ≡ min 134217729 (sum_by value_length (take l.value-index l.values))
