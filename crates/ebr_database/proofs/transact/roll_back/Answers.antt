use Rattle.std.proofs.Common.{sym, subst}
use Rattle.ebr_database.specs.Storable.{AllStorable}
use Rattle.ebr_database.proofs.AllStays.{rolled_back}
use Rattle.ebr_database.proofs.transact.roll_back.Goals as goal

pub returns-clause-storable : goal.returns-clause-storable
returns-clause-storable c = subst AllStorable (sym c.rollback.ensures.contents) (rolled_back c.args.tx.now.contents c.args.t c.requires.storable)
