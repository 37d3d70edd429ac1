use Rattle.std.proofs.Common.{◌≡◌, ◌++◌, drop, map}
use Rattle.ebr_columns.specs.Columns.{column_of}
use Rattle.ebr_columns.proofs.columns.columns_of.Given as goal

abbrev pub invariant-loop-column : goal.invariant-loop-column
invariant-loop-column l = l.made ++ map column_of (drop l.column-index l.columns) ≡ map column_of l.columns
