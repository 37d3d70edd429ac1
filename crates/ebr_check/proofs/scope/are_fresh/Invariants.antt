use Rattle.std.proofs.Common.{◌≡◌, [], drop}
use Rattle.ebr_check.specs.inside.Names.{are_fresh}
use Rattle.ebr_check.proofs.scope.are_fresh.Given as goal

abbrev pub invariant-loop-key : goal.invariant-loop-key
invariant-loop-key g l = are_fresh g.K.PartialEq.eq l.before.keys (drop l.key-index l.keys) ≡ are_fresh g.K.PartialEq.eq [] l.keys
