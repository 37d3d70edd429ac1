use Rattle.std.proofs.Common.{take}
use Rattle.ebr_outside.proofs.Crashing.{LeftSoFar}
use Rattle.ebr_outside.proofs.memory.crash.image_for.Given as goal

abbrev pub invariant-loop-call : goal.invariant-loop-call
invariant-loop-call l = LeftSoFar l.first (take l.call-index l.past) l.pick l.image.items l.reads.items l.rest
