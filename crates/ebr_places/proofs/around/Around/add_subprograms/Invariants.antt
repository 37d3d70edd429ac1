use Rattle.std.proofs.Common.{◌≡◌, drop}
use Rattle.ebr_run.specs.Scope.{with_subprograms}
use Rattle.ebr_places.proofs.around.Around.add_subprograms.Given as goal

abbrev pub invariant-loop-at : goal.invariant-loop-at
invariant-loop-at l = with_subprograms l.owner l.at (drop l.at l.list) l.self ≡ with_subprograms l.owner 0 l.list l.initial.self
