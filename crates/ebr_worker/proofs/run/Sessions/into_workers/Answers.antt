use Rattle.ebr_worker.proofs.Running.{begun_as}
use Rattle.ebr_worker.proofs.run.Sessions.into_workers.Goals as goal

pub returns-clause-begun : goal.returns-clause-begun
returns-clause-begun g c = begun_as c.args.self _ c.self.view_is c.self.invariant.begun
