use Rattle.std.proofs.Common.{◌≡◌, map, drop}
use Rattle.ebr_validity.specs.Rules.{autonomous_stands}
use Rattle.ebr_check.proofs.scope.autonomous_stands.Given as goal

abbrev pub invariant-loop-at : goal.invariant-loop-at
invariant-loop-at l =
    autonomous_stands l.outermost (map (λ n. n.now) (drop l.at l.list)) ≡ autonomous_stands l.outermost (map (λ n. n.now) l.list)
