use Rattle.std.proofs.Common.{◌≡◌, ap, subst, ◌∙◌, Some, IfSome}
use Rattle.std.specs.Option.{option_copied, unwrap_or}
use Rattle.std.specs.Map.{lookup}
use Rattle.ebr_editions.specs.Held.{Held, Defined, nothing_defined, defined_in}
use Rattle.ebr_base.specs.Keys.{same_key}
use Rattle.ebr_editions.proofs.actuals.Actuals.at.Goals as goal

pub returns-clause-last : goal.returns-clause-last
returns-clause-last g c =
    let there : c.in_ok-definitions.definitions.now ≡ defined_in c.args.self.now.editions c.args.e =
    ap (λ r. unwrap_or r nothing_defined) c.in_ok-definitions.ensures.value ∙ ap (λ (h : Held g.row.O.Denot). defined_in h.editions c.args.e) c.self.view_is in
    subst (λ (d : Defined g.row.O.Denot). IfSome c.at.result (λ p. lookup (same_key p.0.now) d.objects ≡ Some (option_copied p.1))) there c.at.ensures.last
