use Rattle.std.proofs.Common.{◌≡◌, ◌++◌, drop}
use Rattle.ebr_columns.specs.Columns.{keys_behind}
use Rattle.ebr_columns.proofs.columns.keys_behind.Given as goal

abbrev pub invariant-loop-column : goal.invariant-loop-column
invariant-loop-column l = l.names ++ keys_behind (drop l.column-index l.columns) ≡ keys_behind l.columns
