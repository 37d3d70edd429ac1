use Rattle.std.proofs.Common.{Err, sym, subst}
use Rattle.ebr_dml.specs.Steps.{stepped}
use Rattle.ebr_levels.proofs.StepLemmas.{step_leaves}
use Rattle.ebr_statements.specs.inside.Answered.{Steps}
use Rattle.ebr_statements.proofs.Stepping.{step_refused, step_storable}
use Rattle.ebr_statements.proofs.cycle.step.Goals as goal

pub returns-in-Err-clause-stepped : goal.returns-in-Err-clause-stepped
returns-in-Err-clause-stepped c =
    subst (λ f. Steps (Err f) c.step.new.self c.step.new.tx.contents (stepped c.args.rows.now c.args.tx.now.contents c.args.after)) (sym c.failure.ensures) (step_refused c.in-Err.stop _ _ _ c.in-Err.ensures.stepped)

pub returns-in-Ok-clause-leaves : goal.returns-in-Ok-clause-leaves
returns-in-Ok-clause-leaves c = λ under off.
    step_leaves c.args.tx.now.contents c.args.rows.now under c.requires.can.live off c.step.new.tx.contents c.step.new.self c.args.after c.step.result c.step.ensures.stepped c.step.ensures.unchanged

pub returns-in-Err-clause-leaves : goal.returns-in-Err-clause-leaves
returns-in-Err-clause-leaves c = λ under off.
    step_leaves c.args.tx.now.contents c.args.rows.now under c.requires.can.live off c.step.new.tx.contents c.step.new.self c.args.after c.step.result c.step.ensures.stepped c.step.ensures.unchanged

pub returns-in-Ok-clause-storable : goal.returns-in-Ok-clause-storable
returns-in-Ok-clause-storable c =
    step_storable c.args.rows.now c.args.tx.now.contents c.requires.storable c.requires.narrow c.args.after c.requires.after c.step.result c.step.new.self c.step.new.tx.contents c.step.ensures.stepped c.step.ensures.unchanged

pub returns-in-Err-clause-storable : goal.returns-in-Err-clause-storable
returns-in-Err-clause-storable c =
    step_storable c.args.rows.now c.args.tx.now.contents c.requires.storable c.requires.narrow c.args.after c.requires.after c.step.result c.step.new.self c.step.new.tx.contents c.step.ensures.stepped c.step.ensures.unchanged
