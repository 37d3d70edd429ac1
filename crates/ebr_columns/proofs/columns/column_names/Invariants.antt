use Rattle.std.proofs.Common.{◌≡◌, ◌++◌, drop}
use Rattle.ebr_columns.specs.Columns.{column_names}
use Rattle.ebr_columns.proofs.columns.column_names.Given as goal

abbrev pub invariant-loop-column : goal.invariant-loop-column
invariant-loop-column l = l.names ++ column_names (drop l.column-index l.columns) ≡ column_names l.columns
