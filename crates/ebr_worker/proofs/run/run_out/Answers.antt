use Rattle.ebr_worker.proofs.RunAlone.{alone_first, alone_turned, runs_on}
use Rattle.ebr_worker.proofs.Rehearsing.{fewer_turned}
use Rattle.ebr_worker.proofs.run.run_out.Goals as goal

pub loop-worker-init : goal.loop-worker-init
loop-worker-init g c = alone_first g.K.Keep.as_keeper _ _ c.requires.works c.requires.runs c.requires.first

pub loop-worker-preserved : goal.loop-worker-preserved
loop-worker-preserved g c = alone_turned g.K.Keep.as_keeper _ _ _ _ _ _ c.loop-worker.invariant (runs_on _ _ _ c.end.ensures c.is_none.ensures c.loop-worker-test.true) c.turn.ensures

pub loop-worker-smaller : goal.loop-worker-smaller
loop-worker-smaller g c = fewer_turned g.K.Keep.as_keeper _ _ _ _ c.turn.ensures (runs_on _ _ _ c.end.ensures c.is_none.ensures c.loop-worker-test.true) c.loop-worker.invariant.stands
