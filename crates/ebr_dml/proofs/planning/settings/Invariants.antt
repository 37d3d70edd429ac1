use Rattle.std.proofs.Common.{◌≡◌, ◌++◌, drop}
use Rattle.ebr_dml.specs.Plans.{settings}
use Rattle.ebr_dml.proofs.planning.settings.Given as goal

abbrev pub invariant-loop-at : goal.invariant-loop-at
invariant-loop-at l = l.sets ++ settings (drop l.at l.places) (drop l.at l.list) ≡ settings l.places l.list
