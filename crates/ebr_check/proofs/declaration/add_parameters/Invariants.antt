use Rattle.std.proofs.Common.{◌≡◌, drop}
use Rattle.ebr_scope.specs.Declarations.{with_parameters}
use Rattle.ebr_check.proofs.declaration.add_parameters.Given as goal

abbrev pub invariant-loop-parameter : goal.invariant-loop-parameter
invariant-loop-parameter l =
    with_parameters l.place.seen.now.view (drop l.parameter-index l.list) l.known ≡ with_parameters l.place.seen.now.view l.list l.initial.known
