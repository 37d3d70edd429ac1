use Rattle.std.proofs.Common.{sym, ◌∙◌}
use Rattle.ebr_cross.proofs.TableIds.{column-added}
use Rattle.ebr_cross.proofs.catalogue.Catalogue.add_column.Goals as goal

pub returns-in-Ok : goal.returns-in-Ok
returns-in-Ok c = λ lists h.
    column-added c.args.self.now lists c.args.id c.args.column.now c.in_ok-column.column c.in-Some.table.now c.in_ok-name.name c.add_column.new.self h c.in-Some.ensures
    c.in_ok-name.ensures c.in_ok-column.ensures c.in-Ok.ensures.tables
