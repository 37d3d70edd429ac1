use Rattle.std.proofs.Common.{◌≡◌, map, length}
use Rattle.ebr_validity.specs.Rules.{others_is_last}
use Rattle.ebr_check.specs.inside.Caught.{caught_of}
use Rattle.ebr_check.proofs.handlers.others_is_last.Given as goal

abbrev pub invariant-loop-first : goal.invariant-loop-first
invariant-loop-first l =
    others_is_last (map caught_of l.left) ≡ others_is_last (map caught_of l.handlers)

abbrev pub decreases-loop-first : goal.decreases-loop-first
decreases-loop-first l = length l.left
