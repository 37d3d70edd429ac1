use Rattle.ebr_database.proofs.AllStays.{pushed, either}
use Rattle.ebr_database.proofs.Pushes.{push_leaves}
use Rattle.ebr_database.proofs.transact.push_autonomous.Goals as goal

pub returns-clause-exact : goal.returns-clause-exact
returns-clause-exact c = push_leaves c.args.s c.args.tx.now.contents c.push_autonomous.new.self.contents c.push_autonomous.result c.push_autonomous.ensures.answer c.push_autonomous.ensures.pushed c.push_autonomous.ensures.unchanged

pub returns-clause-storable : goal.returns-clause-storable
returns-clause-storable c = either c.push_autonomous.result _ _ _ c.push_autonomous.ensures.pushed c.push_autonomous.ensures.unchanged (pushed c.args.tx.now.contents c.args.s c.requires.storable) c.requires.storable
