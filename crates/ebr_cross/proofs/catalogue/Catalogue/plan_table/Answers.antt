use Rattle.std.proofs.Common.{subst}
use Rattle.ebr_base.specs.Answers.{Answers}
use Rattle.ebr_cross.proofs.Creations.{table-made, table-stops}
use Rattle.ebr_cross.proofs.catalogue.Catalogue.plan_table.Goals as goal

pub returns-in-Ok-clause-answer : goal.returns-in-Ok-clause-answer
returns-in-Ok-clause-answer c = λ lists h.
    subst (λ d. Answers c.table_record.result d) (table-made lists c.args.e c.args.name.now c.args.columns.now c.args.key.now c.in-Ok.def (c.in-Ok.ensures lists h))
    (c.table_record.ensures.answer lists h)

pub returns-in-Err-clause-answer : goal.returns-in-Err-clause-answer
returns-in-Err-clause-answer c = λ lists h. table-stops lists c.args.e c.args.name.now c.args.columns.now c.args.key.now c.in-Err.stop (c.in-Err.ensures lists h)
