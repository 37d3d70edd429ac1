use Rattle.std.proofs.Common.{◌∙◌, ap}
use Rattle.ebr_run.specs.Packages.{state_of}
use Rattle.ebr_machine.proofs.Referred.{forgotten}
use Rattle.ebr_machine.proofs.packages.refer_to.Goals as goal

pub make-requires-in-Outdated-clause-absent : goal.make-requires-in-Outdated-clause-absent
make-requires-in-Outdated-clause-absent g c = ap (state_of c.args.name.now) c.forget.ensures ∙ forgotten c.args.name.now c.args.run.now.packages
