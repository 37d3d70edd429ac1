use Rattle.std.proofs.Common.{rules}
use Rattle.ebr_running.proofs.CallsRise.{loop_run}
use Rattle.ebr_running.proofs.running.Running.repeat.Goals as goal

pub returns : goal.returns
returns c book asks given = rw (loop_run book c.args.self.now.makings_left c.args.self.now.frames_left c.args.head c.args.body) (search rules)
