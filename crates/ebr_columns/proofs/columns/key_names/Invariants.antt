use Rattle.std.proofs.Common.{◌≡◌, ◌++◌, take}
use Rattle.ebr_columns.specs.Columns.{keys_behind}
use Rattle.ebr_columns.proofs.columns.key_names.Given as goal

abbrev pub invariant-loop-name : goal.invariant-loop-name
invariant-loop-name l = l.names ≡ keys_behind l.columns ++ take l.name-index l.key
