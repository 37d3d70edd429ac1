use Rattle.std.proofs.Common.{◌≡◌, ◌++◌, map, drop}
use Rattle.std.specs.List.{filter_map}
use Rattle.ebr_scope.specs.Declarations.{item_name}
use Rattle.ebr_check.proofs.scope.declares_items.Given as goal

abbrev pub invariant-loop-item : goal.invariant-loop-item
invariant-loop-item l =
    map (λ n. n.now) l.names ++ filter_map item_name (drop l.item-index l.list) ≡ filter_map item_name l.list
