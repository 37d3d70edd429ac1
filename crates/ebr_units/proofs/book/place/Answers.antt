use Rattle.std.proofs.Common.{rules, sym, ◌∙◌}
use Rattle.std.proofs.lemmas.Fn.{always_returns_same}
use Rattle.ebr_base.specs.declared.object.ObjectKey.{ObjectKey}
use Rattle.ebr_base.specs.Keys.{same_key, key_order}
use Rattle.ebr_names.proofs.Halving.{same-equal, key_total, searched}
use Rattle.ebr_units.specs.declared.book.Entry.{Entry}
use Rattle.ebr_units.specs.inside.Entries.{key_in}
use Rattle.ebr_units.proofs.book.place.Goals as goal

pub returns : goal.returns
returns c =
    let facts = c.binary_search_by.ensures in
    let key : ObjectKey = record { class = c.args.class; name = c.args.name.now } in
    let by_key = facts.position (λ (e : Entry). key_order (key_in e) key) (always_returns_same _ _ _ (λ a r f called. search rules)) in
    c.ok.ensures.value ∙ sym (searched key_total key_in key (λ (e : Entry). same_key key (key_in e)) (λ e. same-equal key (key_in e)) c.args.entries.now c.requires _ facts.bound by_key)
