use Rattle.std.proofs.Common.{sym, subst}
use Rattle.ebr_database.specs.Storable.{AllStorable}
use Rattle.ebr_database.proofs.AllStays.{popped}
use Rattle.ebr_database.proofs.transact.pop_autonomous.Goals as goal

pub returns-clause-storable : goal.returns-clause-storable
returns-clause-storable c = subst AllStorable (sym c.pop_autonomous.ensures.contents) (popped c.args.tx.now.contents c.args.s c.requires.storable)
