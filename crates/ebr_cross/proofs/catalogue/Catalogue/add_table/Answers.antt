use Rattle.std.proofs.Common.{ap, subst, sym, ◌∙◌}
use Rattle.ebr_tables.specs.Tables.{MayJoin, with_definition}
use Rattle.ebr_cross.proofs.TableIds.{tables-of, with-tables}
use Rattle.ebr_cross.proofs.catalogue.Catalogue.add_table.Goals as goal

pub add-requires : goal.add-requires
add-requires c = subst (MayJoin c.args.self.now.tables) (sym c.in_ok-table.ensures) c.requires

pub returns : goal.returns
returns c = λ lists h.
    with-tables c.args.self.now lists c.add.new.self _ h
    (c.in_ok-add.ensures.tables ∙ (ap (with_definition c.args.self.now.tables) c.in_ok-table.ensures ∙ ap (λ k. with_definition k c.args.table.now) (tables-of c.args.self.now lists h)))
