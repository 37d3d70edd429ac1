use Rattle.std.proofs.Common.{◌≡◌, ◌∙◌, Some, take, sym, subst}
use Rattle.std.specs.Prelude.{IfSome}
use Rattle.ebr_base.specs.declared.numbers.RowNo.{RowNo}
use Rattle.ebr_versions.specs.Keys.{HasKey}
use Rattle.ebr_versions.specs.Store.{Store}
use Rattle.ebr_versions.proofs.Indexing.{row_index_as, key_index_as, keys_then_as, found_as, none_as, only_one, take_as}
use Rattle.ebr_versions.proofs.versions.Versions.find_key_at.Goals as goal

pub find_key-requires-clause-row_index : goal.find_key-requires-clause-row_index
find_key-requires-clause-row_index c = row_index_as c.self.inside.commits.items c.self.inside.tables c.self.inside.index c.self.invariant c.as_slice.result.now c.as_slice.ensures.value c.rows.result.now c.rows.ensures

pub find_key-requires-clause-key_index : goal.find_key-requires-clause-key_index
find_key-requires-clause-key_index c =
    key_index_as c.self.inside.commits.items c.self.inside.tables c.self.inside.index c.args.t c.self.invariant c.as_slice.result.now c.as_slice.ensures.value c.keys.result.now c.keys.ensures
    c.key_places-places.result.now c.key_places-places.ensures

pub find_key-requires-clause-differ : goal.find_key-requires-clause-differ
find_key-requires-clause-differ c =
    keys_then_as c.self.inside.commits.items c.self.inside.tables c.self.inside.index c.args.t c.self.invariant c.as_slice.result.now c.as_slice.ensures.value
    c.key_places-places.result.now c.key_places-places.ensures

pub returns-clause-found : goal.returns-clause-found
returns-clause-found c =
    subst (λ (s : Store). IfSome c.find_key.result (λ (r : RowNo). HasKey (take c.args.n s.commits) s.tables c.args.t r c.args.key.now)) c.self.view_is
    (found_as c.as_slice.result.now (take c.args.n c.self.inside.commits.items) c.self.inside.tables c.args.t c.args.key.now c.key_places-places.result.now c.min-n.result c.find_key.result (take_as c.as_slice.result.now c.self.inside.commits.items c.args.n c.min-n.result c.len.result c.as_slice.ensures.value c.min-n.ensures (c.len.ensures ∙ sym c.as_slice.ensures.len)) c.key_places-places.ensures c.find_key.ensures.found)

pub returns-clause-only : goal.returns-clause-only
returns-clause-only c =
    subst (λ (s : Store). (r : RowNo) → HasKey (take c.args.n s.commits) s.tables c.args.t r c.args.key.now → c.find_key.result ≡ Some r) c.self.view_is
    (only_one (take c.args.n c.self.inside.commits.items) c.self.inside.tables c.args.t c.args.key.now c.find_key.result (c.self.invariant.keys_then c.args.n) c.requires.some
    (found_as c.as_slice.result.now (take c.args.n c.self.inside.commits.items) c.self.inside.tables c.args.t c.args.key.now c.key_places-places.result.now c.min-n.result c.find_key.result (take_as c.as_slice.result.now c.self.inside.commits.items c.args.n c.min-n.result c.len.result c.as_slice.ensures.value c.min-n.ensures (c.len.ensures ∙ sym c.as_slice.ensures.len)) c.key_places-places.ensures c.find_key.ensures.found)
    (none_as c.as_slice.result.now (take c.args.n c.self.inside.commits.items) c.self.inside.tables c.args.t c.args.key.now c.key_places-places.result.now c.min-n.result c.find_key.result (take_as c.as_slice.result.now c.self.inside.commits.items c.args.n c.min-n.result c.len.result c.as_slice.ensures.value c.min-n.ensures (c.len.ensures ∙ sym c.as_slice.ensures.len)) c.key_places-places.ensures c.find_key.ensures.none))
