use Rattle.std.proofs.Common.{◌≡◌, ◌≤◌, ◌∙◌, true, sym, ap, subst}
use Rattle.std.specs.Prelude.{List}
use Rattle.ebr_spots.specs.declared.spot.Spot.{Spot}
use Rattle.ebr_spots.specs.Spots.{has, IsLastNumber, IsNoLastNumber}
use Rattle.ebr_versions.specs.Data.{greatest_number_in}
use Rattle.ebr_changes.specs.Filed.{Filed}
use Rattle.ebr_changes.proofs.FiledLemmas.{own_greatest, own_no_greatest}
use Rattle.ebr_changes.proofs.changes.Changes.greatest_number.Goals as goal

pub returns-in-Some : goal.returns-in-Some
returns-in-Some c =
    sym (own_greatest c.self.inside.changes.items c.self.inside.index c.self.invariant c.args.t 18446744073709551615 c.in-Some.last
    (subst (λ (s : List Spot). (q : Spot) → has s q ≡ true → q.number ≤ 18446744073709551615) c.rows.ensures (λ q h. (c.fit.ensures q h).number))
    (subst (λ (s : List Spot). IsLastNumber s c.args.t.0 18446744073709551615 c.in-Some.last) c.rows-2.ensures c.in-Some.ensures.some))
    ∙ ap (λ (s : Filed). greatest_number_in s.changes c.args.t) c.self.view_is

pub returns-in-None : goal.returns-in-None
returns-in-None c =
    sym (own_no_greatest c.self.inside.changes.items c.self.inside.index c.self.invariant c.args.t 18446744073709551615
    (subst (λ (s : List Spot). (q : Spot) → has s q ≡ true → q.number ≤ 18446744073709551615) c.rows.ensures (λ q h. (c.fit.ensures q h).number))
    (subst (λ (s : List Spot). IsNoLastNumber s c.args.t.0 18446744073709551615) c.rows-2.ensures c.in-None.ensures.none))
    ∙ ap (λ (s : Filed). greatest_number_in s.changes c.args.t) c.self.view_is
