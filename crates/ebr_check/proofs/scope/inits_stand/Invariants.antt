use Rattle.std.proofs.Common.{◌≡◌, map, drop}
use Rattle.std.specs.List.{list_all}
use Rattle.ebr_check.specs.inside.Names.{init_stands}
use Rattle.ebr_check.proofs.scope.inits_stand.Given as goal

abbrev pub invariant-loop-declaration : goal.invariant-loop-declaration
invariant-loop-declaration l =
    list_all (init_stands l.exceptions.keys) (map (λ n. n.now) (drop l.declaration-index l.list)) ≡ list_all (init_stands l.exceptions.keys) (map (λ n. n.now) l.list)
