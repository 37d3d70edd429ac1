use Rattle.std.proofs.Common.{◌∙◌}
use Rattle.ebr_recovery.proofs.Plans.{refusal_by_id}
use Rattle.ebr_recovery.proofs.tables.add_refusal.Goals as goal

pub returns-clause-refusal : goal.returns-clause-refusal
returns-clause-refusal c = c.add_refusal.ensures ∙ refusal_by_id c.args.tables.now c.args.table c.in-Some.def.now c.args.column.now c.find.ensures.kept c.in-Some.ensures
