use Rattle.ebr_worker.proofs.Outputs.{quit_leaves, quits_now}
use Rattle.ebr_worker.proofs.worker.Worker.quit.Goals as goal

pub leave-requires-clause-goes_on : goal.leave-requires-clause-goes_on
leave-requires-clause-goes_on g c = (quit_leaves c.args.why c.args.self.now c.drop_ask.new.self c.requires c.drop_ask.ensures).0

pub leave-requires-clause-leaves : goal.leave-requires-clause-leaves
leave-requires-clause-leaves g c = (quit_leaves c.args.why c.args.self.now c.drop_ask.new.self c.requires c.drop_ask.ensures).1

pub returns : goal.returns
returns g c = quits_now c.args.why _ c.args.self.now c.drop_ask.new.self _ c.requires c.drop_ask.ensures c.leave.ensures
