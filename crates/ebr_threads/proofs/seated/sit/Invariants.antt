use Rattle.std.proofs.Common.{◌-◌, length}
use Rattle.ebr_worker.specs.declared.limits.TheConstants.{MAX_ASKS}
use Rattle.ebr_threads.proofs.Sitting.{Came}
use Rattle.ebr_threads.proofs.seated.sit.Given as goal

abbrev pub invariant-loop-worker : goal.invariant-loop-worker
invariant-loop-worker g l = Came l.turn.id g.N.Naming.sessions l.fn.worker l.worker l.chair

abbrev pub decreases-loop-worker : goal.decreases-loop-worker
decreases-loop-worker g l = MAX_ASKS - length l.worker.session.transcript
