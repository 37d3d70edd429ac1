use Rattle.std.proofs.Common.{◌∙◌, sym, ap, subst}
use Rattle.std.specs.Prelude.{List, slice_get}
use Rattle.ebr_base.specs.declared.row.Change.{Change}
use Rattle.ebr_spots.specs.declared.spot.Spot.{Spot}
use Rattle.ebr_spots.specs.Spots.{IsLastBefore, IsNoneBefore}
use Rattle.ebr_versions.specs.Data.{last_change}
use Rattle.ebr_changes.specs.Filed.{Filed}
use Rattle.ebr_changes.proofs.FiledLemmas.{own_last, own_no_last}
use Rattle.ebr_changes.proofs.changes.Changes.last.Goals as goal

pub returns-in-Some : goal.returns-in-Some
returns-in-Some c =
    c.change_at.ensures ∙ ap (λ (cs : List Change). slice_get cs c.in-Some.last.place) c.as_slice.ensures.value
    ∙ own_last c.self.inside.changes.items c.self.inside.index c.self.invariant c.args.row c.in-Some.last c.spot.result c.spot.ensures (subst (λ (s : List Spot). IsLastBefore s c.spot.result c.in-Some.last) c.rows.ensures c.in-Some.ensures.some)
    ∙ ap (λ (s : Filed). last_change c.args.row s.changes) c.self.view_is

pub returns-in-None : goal.returns-in-None
returns-in-None c =
    sym (own_no_last c.self.inside.changes.items c.self.inside.index c.self.invariant c.args.row c.spot.result c.spot.ensures (subst (λ (s : List Spot). IsNoneBefore s c.spot.result) c.rows.ensures c.in-None.ensures.none))
    ∙ ap (λ (s : Filed). last_change c.args.row s.changes) c.self.view_is
