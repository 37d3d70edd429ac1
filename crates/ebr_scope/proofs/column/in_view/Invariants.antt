use Rattle.std.proofs.Common.{◌≡◌, drop}
use Rattle.ebr_names.specs.Columns.{table_columns, view_columns}
use Rattle.ebr_sqlcheck.specs.Targets.{column_type}
use Rattle.ebr_scope.specs.Declarations.{column_among}
use Rattle.ebr_scope.proofs.Before.{before}
use Rattle.ebr_scope.proofs.column.in_view.Given as goal

abbrev pub invariant-loop-at : goal.invariant-loop-at
invariant-loop-at l =
    let base = table_columns 0 l.base in
    before l.found (view_columns base l.view.names l.at (drop l.at l.view.items)) l.m ≡ column_type (column_among (view_columns base l.view.names 0 l.view.items) l.m)
