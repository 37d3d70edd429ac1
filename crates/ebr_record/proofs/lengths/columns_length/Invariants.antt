use Rattle.std.proofs.Common.{◌≡◌, take}
use Rattle.std.specs.Prelude.{length, sum_by}
use Rattle.ebr_record.specs.Payload.{column_bytes}
use Rattle.ebr_record.proofs.lengths.columns_length.Given as goal

-- the bytes so far
abbrev pub invariant-loop-column : goal.invariant-loop-column
invariant-loop-column l = l.length ≡ sum_by (λ c. length (column_bytes c)) (take l.column-index l.columns)
