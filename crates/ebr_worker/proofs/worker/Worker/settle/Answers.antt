use Rattle.ebr_worker.proofs.Outputs.{settles}
use Rattle.ebr_worker.proofs.worker.Worker.settle.Goals as goal

pub returns : goal.returns
returns g c =
    settles _ _ _ _ _ _ _ _ _ _ _ _ _ _ c.self.view_is c.requires.out c.take.ensures.taken c.take.ensures.follows c.end_by-end.ensures c.why_by-self-inside.ensures c.if_ended-self-inside.ensures c.has_ended.ensures.ended
