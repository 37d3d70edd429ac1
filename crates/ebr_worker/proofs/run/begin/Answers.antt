use Rattle.std.proofs.Common.{arith}
use Rattle.ebr_worker.proofs.Running.{new_at}
use Rattle.ebr_worker.proofs.run.begin.Goals as goal

pub loop-number-preserved : goal.loop-number-preserved
loop-number-preserved c =
    new_at c.args.scripts.now c.loop-number.sessions.items c.push.new.self.items c.loop-number.number c.index-scripts-number.result _ c.in_ok-session.session (omega arith) c.index-scripts-number.is
    _ c.as_slice-script.ensures c.in_ok-session.ensures.begins c.in_ok-session.ensures.follows c.in_ok-push.ensures.items c.loop-number.invariant
