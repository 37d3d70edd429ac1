use Rattle.std.proofs.Common.{◌≡◌, ◌++◌, map, drop}
use Rattle.ebr_validity.specs.Units.{parameter_name}
use Rattle.ebr_check.proofs.scope.declares_parameters.Given as goal

abbrev pub invariant-loop-parameter : goal.invariant-loop-parameter
invariant-loop-parameter l =
    map (λ n. n.now) l.names ++ map parameter_name (drop l.parameter-index l.list) ≡ map parameter_name l.list
