use Rattle.std.proofs.Common.{List, slice_get, find, sym, ap, subst, ◌∙◌}
use Rattle.ebr_base.specs.declared.object.ObjectKey.{ObjectKey}
use Rattle.ebr_base.specs.Keys.{same_key}
use Rattle.ebr_ast.specs.declared.view.EditionView.{EditionView}
use Rattle.ebr_names.proofs.Halving.{found-at, found-none}
use Rattle.ebr_units.specs.declared.book.Entry.{Entry}
use Rattle.ebr_units.specs.inside.Entries.{key_in}
use Rattle.ebr_units.proofs.Entries.{Holds, sorted-in, found-in}
use Rattle.ebr_units.proofs.book.Book.entry.Goals as goal

pub place-requires : goal.place-requires
place-requires c =
    let h : Holds c.args.self.now c.self.inside.entries = subst (λ (v : EditionView). Holds v c.self.inside.entries) c.self.view_is c.self.invariant in
    sorted-in c.args.self.now c.as_slice.result.now (c.as_slice.ensures ∙ h.1) h.0

pub returns-in-Some : goal.returns-in-Some
returns-in-Some c =
    let key : ObjectKey = record { class = c.args.class; name = c.args.name.now } in
    let is = λ (e : Entry). same_key key (key_in e) in
    let h : Holds c.args.self.now c.self.inside.entries = subst (λ (v : EditionView). Holds v c.self.inside.entries) c.self.view_is c.self.invariant in
    c.get.ensures.value ∙ (ap (λ (es : List Entry). slice_get es c.in-Some.at) (sym c.as_slice.ensures) ∙ (sym (found-at is c.as_slice.result.now c.in-Some.at (sym c.in-Some.ensures)) ∙ (ap (find is) (c.as_slice.ensures ∙ h.1) ∙ found-in c.args.self.now key c.args.self.now.objects)))

pub returns-in-None : goal.returns-in-None
returns-in-None c =
    let key : ObjectKey = record { class = c.args.class; name = c.args.name.now } in
    let is = λ (e : Entry). same_key key (key_in e) in
    let h : Holds c.args.self.now c.self.inside.entries = subst (λ (v : EditionView). Holds v c.self.inside.entries) c.self.view_is c.self.invariant in
    sym (found-none is c.as_slice.result.now (sym c.in-None.ensures)) ∙ (ap (find is) (c.as_slice.ensures ∙ h.1) ∙ found-in c.args.self.now key c.args.self.now.objects)
