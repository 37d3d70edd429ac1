use Rattle.ebr_cross.proofs.TableIds.{table-dropped}
use Rattle.ebr_cross.proofs.catalogue.Catalogue.drop_table.Goals as goal

pub returns : goal.returns
returns c = λ lists h.
    table-dropped c.args.self.now lists c.args.id c.in-Some.table.now c.in_ok-name.name c.remove.new.self h c.in-Some.ensures c.in_ok-name.ensures c.remove.ensures.tables
