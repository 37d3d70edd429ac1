use Rattle.std.proofs.Common.{List, ap, sym, ◌∙◌}
use Rattle.std.specs.Prelude.{slice_get}
use Rattle.std.proofs.lemmas.Option.{slice_get_within}
use Rattle.ebr_versions.specs.declared.index.Entry.{Entry}
use Rattle.ebr_versions.proofs.KeyLemmas.{is_row-true}
use Rattle.ebr_versions.proofs.Placing.{overtaken, follows}
use Rattle.ebr_versions.proofs.index.lose_key.Goals as goal

pub put_entry-requires : goal.put_entry-requires
put_entry-requires c =
    slice_get_within c.args.pending.now.items c.args.place c.in-Some.entry (sym (c.in-Some.ensures ∙ ap (λ (es : List Entry). slice_get es c.args.place) c.as_slice.ensures.value))

pub returns-clause-entries : goal.returns-clause-entries
returns-clause-entries c =
    overtaken c.args.row c.args.place c.in-Some.entry c.args.pending.now.items c.put_entry.new.entries.items
    (sym (c.in-Some.ensures ∙ ap (λ (es : List Entry). slice_get es c.args.place) c.as_slice.ensures.value)) c.put_entry.ensures
    (is_row-true c.in-Some.entry.row c.args.row (sym c.is_of.ensures ∙ c.if-not-is_of.false))

pub returns-clause-keys : goal.returns-clause-keys
returns-clause-keys c =
    follows c.args.row c.args.place c.in-Some.entry c.args.pending.now.items c.put_entry.new.entries.items
    (sym (c.in-Some.ensures ∙ ap (λ (es : List Entry). slice_get es c.args.place) c.as_slice.ensures.value)) c.put_entry.ensures
    c.args.list c.args.keys.now c.withdraw_key.new.keys c.withdraw_key.ensures.any
