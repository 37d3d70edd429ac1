use Rattle.ebr_database.proofs.Keeping.{stays}
use Rattle.ebr_statements.proofs.asks.transact.Goals as goal

pub returns-in-Err-NoMemory-clause-exact : goal.returns-in-Err-NoMemory-clause-exact
returns-in-Err-NoMemory-clause-exact g c = λ w r room same. stays (g.K.Keep.as_keeper c.args.keeper.now) _
