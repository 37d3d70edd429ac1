use Rattle.std.proofs.Common.{◌≡◌, ap, sym, subst, ◌∙◌}
use Rattle.ebr_tables.specs.inside.Keyed.{Keyed, tables_of}
use Rattle.ebr_base.specs.Keys.{table_named}
use Rattle.ebr_tables.specs.Tables.{remove_answer, without_table}
use Rattle.ebr_tables.proofs.Entries.{lookup-keyed, removed-keyed, removed-tables}
use Rattle.ebr_tables.proofs.tables.Tables.remove.Goals as goal
use Rattle.ebr_tables.proofs.tables.Tables.remove.Goals.{in-Some, in-None}

pub invariant_of-self : goal.invariant_of-self
invariant_of-self c =
    subst (Keyed c.self.inside.made) (sym c.shift_remove.ensures.entries)
    (removed-keyed c.self.inside.made c.args.t.now c.self.inside.living.entries c.self.invariant)

pub returns-clause-answer : goal.returns-clause-answer
returns-clause-answer c =
    let found : c.shift_remove.result ≡ table_named c.args.t.now c.args.self.now.living =
    c.shift_remove.ensures.value
    ∙ lookup-keyed c.self.inside.made c.args.t.now c.self.inside.living.entries c.self.invariant
    ∙ ap (λ s. table_named c.args.t.now s.living) c.self.view_is
    in
    elim c.match-shift_remove.branch [
      | in-Some w ↦ w.result-is ∙ ap remove_answer (sym w.in-Some.is ∙ found)
      | in-None w ↦ w.result-is ∙ ap remove_answer (sym w.in-None.is ∙ found)
    ]

pub returns-clause-tables : goal.returns-clause-tables
returns-clause-tables c =
    ap (tables_of c.self.inside.made) c.shift_remove.ensures.entries
    ∙ removed-tables c.self.inside.made c.args.t.now c.self.inside.living.entries c.self.invariant
    ∙ ap (λ s. without_table s c.args.t.now) c.self.view_is
