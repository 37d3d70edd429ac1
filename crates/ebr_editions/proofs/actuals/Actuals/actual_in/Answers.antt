use Rattle.std.proofs.Common.{◌≡◌, Some, option_map}
use Rattle.ebr_editions.specs.Held.{deref_object}
use Rattle.ebr_editions.specs.inside.Held.{held_object}
use Rattle.ebr_editions.proofs.Entries.{at-held, if_some-map}
use Rattle.ebr_editions.proofs.actuals.Actuals.actual_in.Goals as goal

pub returns-clause-entry : goal.returns-clause-entry
returns-clause-entry g c = λ entries h.
    at-held c.args.self.now entries c.args.e c.args.at (option_map deref_object c.at.result) h c.at.ensures.entry
    (if_some-map deref_object (λ p. held_object c.args.self.now c.args.e p.0 ≡ Some p.1) c.at.result c.at.ensures.last)
