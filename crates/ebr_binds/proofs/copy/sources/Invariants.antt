use Rattle.std.proofs.Common.{◌≡◌, take}
use Rattle.ebr_binds.proofs.copy.sources.Given as goal

abbrev pub invariant-loop-next : goal.invariant-loop-next
invariant-loop-next l = l.copy ≡ take l.next-index l.next-items
