use Rattle.std.proofs.Common.{refl}
use Rattle.ebr_worker.proofs.Rehearsing.{taken_at}
use Rattle.ebr_worker.proofs.rehearse.take_turns.Goals as goal

pub loop-session-preserved : goal.loop-session-preserved
loop-session-preserved g c =
    taken_at _ _ _ _ _ _ _ _ _ _ _ _ _ c.loop-session-test.true refl c.requires.order refl c.turn_at.ensures c.loop-session.invariant
