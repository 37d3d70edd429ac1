use Rattle.std.proofs.Common.{sym}
use Rattle.ebr_cross.proofs.TableIds.{named-by-id, there-by-id}
use Rattle.ebr_cross.proofs.catalogue.Catalogue.table_id.Goals as goal

pub returns-in-Some-clause-there : goal.returns-in-Some-clause-there
returns-in-Some-clause-there c = there-by-id c.args.self.now.tables c.args.name.now c.in-Some.table.now c.find.ensures.kept (sym c.in-Some.ensures.table)

pub returns-in-Some-clause-named : goal.returns-in-Some-clause-named
returns-in-Some-clause-named c = named-by-id c.args.self.now.tables c.args.name.now c.in-Some.table.now c.find.ensures.kept (sym c.in-Some.ensures.table)
