use Rattle.std.proofs.Common.{◌≡◌, ◌++◌, length}
use Rattle.ebr_shared_list.specs.Joined.{joined, AreFilled}
use Rattle.ebr_shared_list.proofs.edit.chunks_of.Given as goal

abbrev pub invariant-loop-left : goal.invariant-loop-left
invariant-loop-left g l = (joined l.made ++ l.left ≡ l.items) × AreFilled l.made

abbrev pub decreases-loop-left : goal.decreases-loop-left
decreases-loop-left g l = length l.left
