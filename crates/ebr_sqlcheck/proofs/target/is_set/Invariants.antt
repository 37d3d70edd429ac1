use Rattle.std.proofs.Common.{◌≡◌, map, drop}
use Rattle.std.specs.List.{list_any}
use Rattle.std.specs.Str.{bytes_eq}
use Rattle.ebr_sqlcheck.specs.Statements.{set_column}
use Rattle.ebr_sqlcheck.proofs.target.is_set.Given as goal

abbrev pub invariant-loop-set : goal.invariant-loop-set
invariant-loop-set l = list_any (bytes_eq l.name) (map set_column (drop l.set-index l.sets)) ≡ list_any (bytes_eq l.name) (map set_column l.sets)
