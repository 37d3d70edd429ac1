use Rattle.ebr_threads.proofs.Sitting.{came_first, came_more, fewer_left, goes_on, has_sat}
use Rattle.ebr_threads.proofs.seated.sit.Goals as goal

pub loop-worker-init : goal.loop-worker-init
loop-worker-init g c = came_first _ _ _ _ c.requires

pub turn_at-requires-clause-sits : goal.turn_at-requires-clause-sits
turn_at-requires-clause-sits g c κs within = c.loop-worker.invariant.sits

pub turn_at-requires-clause-runs : goal.turn_at-requires-clause-runs
turn_at-requires-clause-runs g c κs within = goes_on _ _ _ c.end.ensures c.is_none.ensures c.loop-worker-test.true

pub loop-worker-preserved : goal.loop-worker-preserved
loop-worker-preserved g c = came_more _ _ _ _ _ _ _ c.loop-worker.invariant c.turn_at.ensures.sits c.turn_at.ensures.went

pub loop-worker-smaller : goal.loop-worker-smaller
loop-worker-smaller g c = fewer_left _ _ _ _ c.turn_at.new.worker _ c.loop-worker.invariant (goes_on _ _ _ c.end.ensures c.is_none.ensures c.loop-worker-test.true) c.turn_at.ensures.more

pub returns-clause-went : goal.returns-clause-went
returns-clause-went g c = c.loop-worker.invariant.went

pub returns-clause-sat : goal.returns-clause-sat
returns-clause-sat g c = has_sat _ _ _ _ _ _ _ c.loop-worker.invariant c.end.ensures c.is_none.ensures c.loop-worker-test.false
