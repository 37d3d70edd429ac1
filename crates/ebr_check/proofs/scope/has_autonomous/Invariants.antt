use Rattle.std.proofs.Common.{◌≡◌, map, drop}
use Rattle.ebr_validity.specs.Rules.{has_autonomous}
use Rattle.ebr_check.proofs.scope.has_autonomous.Given as goal

abbrev pub invariant-loop-declaration : goal.invariant-loop-declaration
invariant-loop-declaration l =
    has_autonomous (map (λ n. n.now) (drop l.declaration-index l.list)) ≡ has_autonomous (map (λ n. n.now) l.list)
