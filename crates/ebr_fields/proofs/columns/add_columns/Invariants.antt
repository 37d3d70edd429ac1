use Rattle.std.proofs.Common.{◌≡◌, ◌++◌, map, drop}
use Rattle.ebr_fields.specs.Columns.{column_field}
use Rattle.ebr_fields.proofs.columns.add_columns.Given as goal

abbrev pub invariant-loop-column : goal.invariant-loop-column
invariant-loop-column l =
    l.fields ++ map column_field (drop l.column-index l.column-items) ≡ l.initial.fields ++ map column_field l.column-items
