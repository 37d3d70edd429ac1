use Rattle.ebr_recovery.proofs.Plans.{drop_follows}
use Rattle.ebr_recovery.proofs.plan.plan.Goals as goal

pub returns-in-Gone-clause-follows : goal.returns-in-Gone-clause-follows
returns-in-Gone-clause-follows c = drop_follows c.args.c.now c.in-Gone.edition c.in-Gone.class c.in-Gone.name c.drop_plan.result c.drop_plan.ensures.is
