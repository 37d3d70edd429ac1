use Rattle.std.proofs.Common.{◌-◌, length}
use Rattle.ebr_worker.specs.declared.limits.TheConstants.{MAX_ASKS}
use Rattle.ebr_worker.specs.inside.Rehearsal.{RunsAlone}
use Rattle.ebr_worker.proofs.run.run_out.Given as goal

-- the session came so far
abbrev pub invariant-loop-worker : goal.invariant-loop-worker
invariant-loop-worker g l = RunsAlone g.K.Keep.as_keeper l.fn.worker l.worker l.fn.engine l.engine

abbrev pub decreases-loop-worker : goal.decreases-loop-worker
decreases-loop-worker g l = MAX_ASKS - length l.worker.session.transcript
