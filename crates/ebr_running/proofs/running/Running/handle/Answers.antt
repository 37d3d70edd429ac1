use Rattle.std.proofs.Common.{rules}
use Rattle.ebr_running.proofs.Handled.{handled_at, handled_not}
use Rattle.ebr_running.proofs.running.Running.handle.Goals as goal

pub returns-in_ok-push-in-Some : goal.returns-in_ok-push-in-Some
returns-in_ok-push-in-Some c book asks given = rw (handled_at c.args.place c.args.handlers.now _ c.args.self.now.fault _ c.in-Some.handler.now (search rules)) (search rules)

pub returns-in-None : goal.returns-in-None
returns-in-None c book asks given = rw (handled_not c.args.place c.args.handlers.now _ c.args.self.now.fault _ (search rules)) (search rules)
