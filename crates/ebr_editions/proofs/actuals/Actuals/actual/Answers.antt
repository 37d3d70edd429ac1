use Rattle.std.proofs.Common.{ap, ◌∙◌, Some, None}
use Rattle.std.specs.Option.{option_copied}
use Rattle.ebr_editions.proofs.Entries.{actual-held}
use Rattle.ebr_editions.proofs.actuals.Actuals.actual.Goals as goal

pub returns-in_err-entry-clause-object : goal.returns-in_err-entry-clause-object
returns-in_err-entry-clause-object g c = λ entries h. ap option_copied c.from_residual.ensures ∙ actual-held c.args.self.now entries c.args.e c.args.key.now None h c.in_err-entry.ensures.object

pub returns-clause-object : goal.returns-clause-object
returns-clause-object g c = λ entries h. c.as_ref.ensures.value ∙ actual-held c.args.self.now entries c.args.e c.args.key.now (Some c.in_ok-entry.field-0.now) h c.in_ok-entry.ensures.object
