use Rattle.ebr_database.proofs.AllStays.{at_savepoint, either}
use Rattle.ebr_database.proofs.transact.savepoint.Goals as goal

pub returns-clause-storable : goal.returns-clause-storable
returns-clause-storable c = either c.savepoint.result _ _ _ c.savepoint.ensures.ok c.savepoint.ensures.err (at_savepoint c.args.tx.now.contents c.args.t c.args.name c.requires.storable) c.requires.storable
