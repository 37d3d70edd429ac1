use Rattle.std.proofs.Common.{◌≡◌, drop}
use Rattle.ebr_names.specs.Columns.{table_columns, view_columns}
use Rattle.ebr_names.specs.inside.Joined.{joined}
use Rattle.ebr_names.proofs.column.view_columns.Given as goal

abbrev pub invariant-loop-at : goal.invariant-loop-at
invariant-loop-at l =
    let base = table_columns 0 l.columns in
    joined l.found (view_columns base l.view.names l.at (drop l.at l.view.items)) ≡ view_columns base l.view.names 0 l.view.items
