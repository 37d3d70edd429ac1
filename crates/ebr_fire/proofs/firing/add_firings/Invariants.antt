use Rattle.std.proofs.Common.{◌≡◌, ◌++◌, map, length}
use Rattle.ebr_fire.specs.Fires.{firing}
use Rattle.ebr_fire.proofs.firing.add_firings.Given as goal

abbrev pub invariant-loop-trigger : goal.invariant-loop-trigger
invariant-loop-trigger l = l.found ++ map (firing l.crossedition l.e) l.left.keys ≡ l.initial.found ++ map (firing l.crossedition l.e) l.fn.group.keys

abbrev pub decreases-loop-trigger : goal.decreases-loop-trigger
decreases-loop-trigger l = length l.left.keys
