use Rattle.std.proofs.Common.{ap, ◌∙◌}
use Rattle.ebr_editions.specs.inside.Held.{held_visible}
use Rattle.ebr_editions.proofs.Entries.{visible-held}
use Rattle.ebr_editions.proofs.actuals.Actuals.visible.Goals as goal

pub returns : goal.returns
returns g c = λ entries h. c.seen.ensures ∙ (ap (λ k. held_visible c.args.chain.now.made k c.args.e c.args.key.now) h ∙ visible-held c.args.chain.now.made entries c.args.e c.args.key.now)
