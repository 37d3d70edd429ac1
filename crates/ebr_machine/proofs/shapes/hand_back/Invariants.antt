use Rattle.std.proofs.Common.{◌≡◌, drop, map, nat_eq}
use Rattle.ebr_run.specs.Calls.{giving}
use Rattle.ebr_code.specs.Runs.{formal}
use Rattle.ebr_machine.proofs.shapes.hand_back.Given as goal

abbrev pub invariant-loop-parameter : goal.invariant-loop-parameter
invariant-loop-parameter l = nat_eq l.left (giving (map formal (drop l.parameter-index l.parameters))) ≡ nat_eq l.count (giving (map formal l.parameters))
