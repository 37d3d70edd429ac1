use Rattle.std.proofs.Common.{◌≡◌, drop}
use Rattle.ebr_names.specs.inside.Rising.{rising}
use Rattle.ebr_names.proofs.ordered.rises.Given as goal

abbrev pub invariant-loop-at : goal.invariant-loop-at
invariant-loop-at l = rising (drop l.at l.objects) ≡ rising l.objects
