use Rattle.std.proofs.Common.{◌≡◌, drop, map}
use Rattle.ebr_code.specs.Runs.{formal}
use Rattle.ebr_machine.specs.inside.Callees.{first_unfit}
use Rattle.ebr_machine.proofs.calls.first_unfit.Given as goal

abbrev pub invariant-loop-value : goal.invariant-loop-value
invariant-loop-value l = first_unfit (map formal l.left) (drop l.value-index l.values) ≡ first_unfit (map formal l.parameters) l.values
