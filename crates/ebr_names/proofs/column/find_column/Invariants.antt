use Rattle.std.proofs.Common.{◌≡◌, drop}
use Rattle.ebr_names.specs.Columns.{table_columns, column_named}
use Rattle.ebr_names.proofs.column.find_column.Given as goal

abbrev pub invariant-loop-place : goal.invariant-loop-place
invariant-loop-place l = column_named l.name (table_columns l.place (drop l.place l.columns)) ≡ column_named l.name (table_columns 0 l.columns)
