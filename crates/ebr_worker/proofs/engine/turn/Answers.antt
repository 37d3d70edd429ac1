use Rattle.ebr_worker.proofs.OverEngine.{may_turn, turned}
use Rattle.ebr_worker.proofs.engine.turn.Goals as goal

pub turn-requires : goal.turn-requires
turn-requires g c = may_turn _ _ c.requires

pub returns : goal.returns
returns g c = turned g.K.Keep.as_keeper _ _ _ _ c.requires c.turn.ensures
