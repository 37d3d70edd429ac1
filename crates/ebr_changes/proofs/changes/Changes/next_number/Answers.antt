use Rattle.std.proofs.Common.{◌∙◌, sym, ap, subst}
use Rattle.std.specs.Prelude.{List}
use Rattle.ebr_spots.specs.declared.spot.Spot.{Spot}
use Rattle.ebr_spots.specs.Spots.{IsNextNumber, IsNoNextNumber}
use Rattle.ebr_versions.specs.Data.{next_number_in}
use Rattle.ebr_changes.specs.Filed.{Filed}
use Rattle.ebr_changes.proofs.FiledLemmas.{own_next, own_no_next}
use Rattle.ebr_changes.proofs.changes.Changes.next_number.Goals as goal

pub returns-in-Some : goal.returns-in-Some
returns-in-Some c =
    sym (own_next c.self.inside.changes.items c.self.inside.index c.self.invariant c.args.t c.args.after c.in-Some.next (subst (λ (s : List Spot). IsNextNumber s c.args.t.0 c.args.after c.in-Some.next) c.rows.ensures c.in-Some.ensures.some))
    ∙ ap (λ (s : Filed). next_number_in s.changes c.args.t c.args.after) c.self.view_is

pub returns-in-None : goal.returns-in-None
returns-in-None c =
    sym (own_no_next c.self.inside.changes.items c.self.inside.index c.self.invariant c.args.t c.args.after (subst (λ (s : List Spot). IsNoNextNumber s c.args.t.0 c.args.after) c.rows.ensures c.in-None.ensures.none))
    ∙ ap (λ (s : Filed). next_number_in s.changes c.args.t c.args.after) c.self.view_is
