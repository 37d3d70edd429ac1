use Rattle.ebr_machine.proofs.Row.{leaves_nothing}
use Rattle.ebr_machine.proofs.begin.leave_rest.Goals as goal

pub returns-in-None : goal.returns-in-None
returns-in-None c = leaves_nothing c.args.run.now c.args.body.now c.args.place c.in-None.ensures
