use Rattle.std.proofs.Common.{sym, subst}
use Rattle.ebr_database.specs.Storable.{AllStorable}
use Rattle.ebr_database.proofs.AllStays.{back}
use Rattle.ebr_database.proofs.transact.back_to.Goals as goal

pub returns-clause-storable : goal.returns-clause-storable
returns-clause-storable c = subst AllStorable (sym c.back_to.ensures.contents) (back c.args.tx.now.contents c.args.t c.args.name.now c.requires.storable)
