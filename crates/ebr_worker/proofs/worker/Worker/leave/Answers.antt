use Rattle.std.proofs.Common.{Ok, ap, ◌∙◌, subst}
use Rattle.ebr_worker.specs.inside.Worker.{Advanced}
use Rattle.ebr_worker.proofs.Outputs.{leaves_done, leaves_failed, leaves_now}
use Rattle.ebr_worker.proofs.worker.Worker.leave.Goals as goal

pub returns-in-Ok-Ask : goal.returns-in-Ok-Ask
returns-in-Ok-Ask g c = leaves_now _ _ _ c.requires.leaves (subst (λ r. Advanced r c.args.self.now c.advance.new.self) (c.in-Ok-Ask.is ∙ ap Ok c.in-Ok-Ask.field-0-is) c.advance.ensures)

pub returns-in-Ok-Done : goal.returns-in-Ok-Done
returns-in-Ok-Done g c = leaves_done _ _ c.requires.goes_on (subst (λ r. Advanced r c.args.self.now c.advance.new.self) (c.in-Ok-Done.is ∙ ap Ok c.in-Ok-Done.field-0-is) c.advance.ensures)

pub returns-in-Err : goal.returns-in-Err
returns-in-Err g c = leaves_failed _ _ _ c.requires.leaves (subst (λ r. Advanced r c.args.self.now c.advance.new.self) c.in-Err.is c.advance.ensures)
