use Rattle.ebr_core.proofs.Starting.{first_holds}
use Rattle.ebr_core.proofs.parts.first_current.Goals as goal

pub returns-clause-holds : goal.returns-clause-holds
returns-clause-holds g c = λ records n are begin ready. first_holds g.K.Keep.as_keeper records _ n are c.new-2.ensures.current c.new.ensures.current begin ready
