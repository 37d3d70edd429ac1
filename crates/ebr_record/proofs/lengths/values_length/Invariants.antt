use Rattle.std.proofs.Common.{◌≡◌, take}
use Rattle.std.specs.Prelude.{sum_by}
use Rattle.ebr_tx.specs.Limits.{value_length}
use Rattle.ebr_record.proofs.lengths.values_length.Given as goal

-- the bytes so far
abbrev pub invariant-loop-value : goal.invariant-loop-value
invariant-loop-value l = l.length ≡ sum_by value_length (take l.value-index l.values)
