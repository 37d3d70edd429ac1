use Rattle.std.proofs.Common.{◌≡◌, ◌≤◌, ◌∙◌, true, List, ap, subst}
use Rattle.std.specs.Prelude.{IfSome, IfNone}
use Rattle.std.specs.List.{list_any}
use Rattle.ebr_spots.specs.declared.spot.Spot.{Spot}
use Rattle.ebr_spots.specs.Spots.{has, IsLastNumber, IsNoLastNumber}
use Rattle.ebr_versions.specs.Data.{is_in}
use Rattle.ebr_changes.specs.Filed.{Filed}
use Rattle.ebr_changes.proofs.FiledLemmas.{in_table}
use Rattle.ebr_changes.proofs.changes.Changes.changes_table.Goals as goal

pub returns : goal.returns
returns c =
    c.is_some.ensures
    ∙ in_table c.self.inside.changes.items c.self.inside.index c.self.invariant c.args.t 18446744073709551615
    (subst (λ (s : List Spot). (q : Spot) → has s q ≡ true → q.number ≤ 18446744073709551615) c.rows.ensures (λ q h. (c.fit.ensures q h).number)) c.last_number.result
    (subst (λ (s : List Spot). IfSome c.last_number.result (IsLastNumber s c.args.t.0 18446744073709551615)) c.rows-2.ensures c.last_number.ensures.some)
    (subst (λ (s : List Spot). IfNone c.last_number.result (IsNoLastNumber s c.args.t.0 18446744073709551615)) c.rows-2.ensures c.last_number.ensures.none)
    ∙ ap (λ (s : Filed). list_any (is_in c.args.t) s.changes) c.self.view_is
