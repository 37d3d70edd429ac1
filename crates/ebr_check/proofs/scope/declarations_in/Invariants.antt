use Rattle.std.proofs.Common.{◌≡◌, ◌++◌, map, drop}
use Rattle.std.specs.List.{filter_map}
use Rattle.ebr_names.specs.Headers.{declaration_in}
use Rattle.ebr_check.proofs.scope.declarations_in.Given as goal

abbrev pub invariant-loop-item : goal.invariant-loop-item
invariant-loop-item l =
    map (λ n. n.now) l.lent ++ filter_map declaration_in (drop l.item-index l.items) ≡ filter_map declaration_in l.items
