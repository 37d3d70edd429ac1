use Rattle.std.proofs.Common.{◌≡◌, ◌++◌, drop, map}
use Rattle.ebr_cross.specs.Definitions.{item_name}
use Rattle.ebr_cross.proofs.create.item_names.Given as goal

abbrev pub invariant-loop-item : goal.invariant-loop-item
invariant-loop-item l = l.names ++ map item_name (drop l.item-index l.items) ≡ map item_name l.items
