use Rattle.std.proofs.Common.{◌≡◌, count_by, take}
use Rattle.ebr_columns.specs.Columns.{is_primary}
use Rattle.ebr_columns.proofs.columns.primary_count.Given as goal

abbrev pub invariant-loop-constraint : goal.invariant-loop-constraint
invariant-loop-constraint l = l.count ≡ count_by is_primary (take l.constraint-index l.constraints)
