use Rattle.std.proofs.Common.{ap, ◌∙◌, subst}
use Rattle.std.specs.Str.{bytes_eq}
use Rattle.std.specs.Map.{lookup}
use Rattle.ebr_base.specs.Answers.{Answers}
use Rattle.ebr_tables.specs.inside.Keyed.{Keyed, tables_of}
use Rattle.ebr_base.specs.Keys.{table_named}
use Rattle.ebr_tables.specs.Tables.{add_refusal, add_answer, with_column}
use Rattle.ebr_tables.proofs.Entries.{lookup-keyed, widened-keyed, widened-tables}
use Rattle.ebr_tables.proofs.Results.{OnOk-map, either_way, not_refused}
use Rattle.ebr_tables.proofs.tables.Tables.add_column.Goals as goal

pub invariant_of-self : goal.invariant_of-self
invariant_of-self c =
    let es = c.self.inside.living.entries in
    either_way (Keyed c.self.inside.made) c.widen.result _ _ es c.widen.ensures.tables c.widen.ensures.unchanged
    (not_refused c.widen.result (add_refusal (lookup (bytes_eq c.args.t.now) es) c.args.c) tt c.widen.ensures.answer)
    (widened-keyed c.self.inside.made c.args.t.now c.args.c es c.self.invariant) c.self.invariant

pub returns-clause-answer : goal.returns-clause-answer
returns-clause-answer c =
    subst (λ o. Answers c.widen.result (add_answer o c.args.c))
    (lookup-keyed c.self.inside.made c.args.t.now c.self.inside.living.entries c.self.invariant ∙ ap (λ s. table_named c.args.t.now s.living) c.self.view_is)
    c.widen.ensures.answer

pub returns-clause-tables : goal.returns-clause-tables
returns-clause-tables c =
    OnOk-map c.widen.result
    (λ e. ap (tables_of c.self.inside.made) e
    ∙ widened-tables c.self.inside.made c.args.t.now c.args.c c.self.inside.living.entries c.self.invariant
    ∙ ap (λ s. with_column s c.args.t.now c.args.c) c.self.view_is)
    c.widen.ensures.tables
