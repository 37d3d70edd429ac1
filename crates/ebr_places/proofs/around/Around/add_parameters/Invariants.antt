use Rattle.std.proofs.Common.{◌≡◌, drop}
use Rattle.ebr_run.specs.Scope.{with_parameters}
use Rattle.ebr_places.proofs.around.Around.add_parameters.Given as goal

abbrev pub invariant-loop-it : goal.invariant-loop-it
invariant-loop-it l = with_parameters (drop l.it-index l.list) l.self ≡ with_parameters l.list l.initial.self
