use Rattle.std.proofs.Common.{◌≡◌, take}
use Rattle.ebr_places.proofs.exceptions.copied.Given as goal

abbrev pub invariant-loop-at : goal.invariant-loop-at
invariant-loop-at l = l.copy ≡ take l.at-index l.path
