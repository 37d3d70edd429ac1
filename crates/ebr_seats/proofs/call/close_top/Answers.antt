use Rattle.std.proofs.Common.{ap, sym}
use Rattle.ebr_database.specs.Base.{Base}
use Rattle.ebr_database.specs.Outcome.{Outcome}
use Rattle.ebr_database.specs.Transact.{Done}
use Rattle.ebr_seats.proofs.call.close_top.Goals as goal

pub returns-clause-contents : goal.returns-clause-contents
returns-clause-contents c = sym (ap (λ (o : Outcome Base Done). o.state.data_now) (c.pop_autonomous.ensures.exact.is 0))
