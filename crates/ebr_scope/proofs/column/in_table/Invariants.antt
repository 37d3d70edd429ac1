use Rattle.std.proofs.Common.{◌≡◌, drop}
use Rattle.ebr_names.specs.Columns.{table_columns, column_named}
use Rattle.ebr_scope.proofs.column.in_table.Given as goal

abbrev pub invariant-loop-column : goal.invariant-loop-column
invariant-loop-column l = column_named l.m (table_columns l.column-index (drop l.column-index l.columns)) ≡ column_named l.m (table_columns 0 l.columns)
