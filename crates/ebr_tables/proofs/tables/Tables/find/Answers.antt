use Rattle.std.proofs.Common.{ap, ◌∙◌}
use Rattle.ebr_base.specs.Keys.{table_named}
use Rattle.ebr_tables.proofs.Entries.{lookup-keyed}
use Rattle.ebr_tables.proofs.tables.Tables.find.Goals as goal

pub returns-clause-table : goal.returns-clause-table
returns-clause-table c =
    c.get.ensures.value
    ∙ lookup-keyed c.self.inside.made c.args.t.now c.self.inside.living.entries c.self.invariant
    ∙ ap (λ s. table_named c.args.t.now s.living) c.self.view_is
