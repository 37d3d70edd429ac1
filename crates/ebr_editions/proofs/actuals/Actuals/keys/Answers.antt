use Rattle.std.proofs.Common.{ap, ◌∙◌}
use Rattle.ebr_editions.specs.Held.{Held}
use Rattle.ebr_editions.proofs.Entries.{keys-held}
use Rattle.ebr_editions.proofs.actuals.Actuals.keys.Goals as goal

pub returns : goal.returns
returns g c = λ entries h. c.all_keys.ensures ∙ (ap (λ (k : Held g.row.O.Denot). k.keys) h ∙ keys-held entries)
