use Rattle.std.proofs.Common.{List, ap, ◌∙◌}
use Rattle.std.specs.Prelude.{slice_get}
use Rattle.ebr_versions.specs.declared.table.Table.{Table}
use Rattle.ebr_versions.specs.Keys.{key_places}
use Rattle.ebr_versions.specs.inside.Tables.{key_of_table}
use Rattle.ebr_versions.proofs.TableLemmas.{places_found, places_none}
use Rattle.ebr_versions.proofs.table.Tables.key_places.Goals as goal

pub returns-in-Some : goal.returns-in-Some
returns-in-Some c =
    c.key_at.ensures ∙ ap (λ (ts : List Table). key_of_table (slice_get ts c.in-Some.first.place)) c.as_slice.ensures.value
    ∙ places_found c.self.inside.by_id c.self.inside.tables.items c.self.invariant c.args.t c.in-Some.first c.spot.result c.spot.ensures c.in-Some.ensures.some
    ∙ ap (λ (ts : List Table). key_places ts c.args.t) c.self.view_is

pub returns-in-None : goal.returns-in-None
returns-in-None c =
    places_none c.self.inside.by_id c.self.inside.tables.items c.self.invariant c.args.t c.spot.result c.spot.ensures c.in-None.ensures.none
    ∙ ap (λ (ts : List Table). key_places ts c.args.t) c.self.view_is
