use Rattle.std.proofs.Common.{◌≡◌, drop, []}
use Rattle.ebr_scope.specs.Lent.{env}
use Rattle.ebr_rules.specs.Noted.{noted}
use Rattle.ebr_validity.specs.Units.{parameter_sites}
use Rattle.ebr_check.proofs.declaration.parameter_sizes.Given as goal

abbrev pub invariant-loop-parameter : goal.invariant-loop-parameter
invariant-loop-parameter l =
    noted (parameter_sites (drop l.parameter-index l.parameters) (env l.place [])) l.least ≡ noted (parameter_sites l.parameters (env l.place [])) l.initial.least
