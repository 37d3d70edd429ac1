use Rattle.std.proofs.Common.{◌≡◌, length}
use Rattle.ebr_validity.specs.Rules.{same_parameters}
use Rattle.ebr_check.proofs.package.same_parameters.Given as goal

abbrev pub invariant-loop-first : goal.invariant-loop-first
invariant-loop-first l =
    same_parameters l.left l.right ≡ same_parameters l.a l.b

abbrev pub decreases-loop-first : goal.decreases-loop-first
decreases-loop-first l = length l.left
