use Rattle.std.proofs.Common.{◌≡◌, ◌++◌, ◌+◌, map, drop}
use Rattle.ebr_run.specs.Scope.{parts_from}
use Rattle.ebr_places.specs.Lent.{part}
use Rattle.ebr_places.proofs.around.parts_from.Given as goal

abbrev pub invariant-loop-at : goal.invariant-loop-at
invariant-loop-at l = map part l.parts ++ parts_from (l.first + l.at) (drop l.at l.fields) ≡ parts_from l.first l.fields
