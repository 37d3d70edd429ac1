use Rattle.ebr_worker.proofs.Outputs.{quits}
use Rattle.ebr_worker.proofs.worker.Worker.drop_ask.Goals as goal

pub returns : goal.returns
returns g c = quits _ _ _ _ _ _ _ _ _ _ c.self.view_is c.quit.ensures.quits
