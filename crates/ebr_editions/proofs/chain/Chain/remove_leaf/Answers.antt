use Rattle.std.proofs.Common.{◌≡◌, ◌≢◌, ◌-◌, ap, sym, subst, ◌∙◌, true, false, set, map, get_or, None, List, length, refl, arith}
use Rattle.std.proofs.lemmas.Option.{slice_get_read}
use Rattle.ebr_base.specs.declared.numbers.EditionNo.{EditionNo}
use Rattle.ebr_editions.specs.declared.entry.EditionEntry.{EditionEntry}
use Rattle.ebr_editions.specs.Editions.{Editions, is_living, child_of, gone, without_edition, IsNumberedFrom}
use Rattle.ebr_editions.specs.inside.Chain.{IsIndexed}
use Rattle.ebr_editions.proofs.Line.{living-entry, edition_of-above, edition_of-bound, gone-set}
use Rattle.ebr_editions.proofs.Index.{removed}
use Rattle.ebr_editions.proofs.chain.Chain.remove_leaf.Goals as goal

-- the write at the edition's place
marked : (items : List EditionEntry) (e : EditionNo) (x : EditionEntry) → IsNumberedFrom 0 items → is_living items e ≡ true → x ≡ get_or items (e.0 - 1) x → set items (e.0 - 1) (record x { living = false }) ≡ map (gone e) items
marked items e x numbered lives read =
    let there = living-entry items e lives in
    let low = edition_of-above 0 items e there.0 numbered there.1 in
    let high = edition_of-bound 0 items e there.0 numbered there.1 in
    let found = slice_get_read items (length items) (e.0 - 1) x refl (omega (arith, low, high)) read in
    gone-set 0 (e.0 - 1) e items x numbered (omega (arith, low)) found

pub overflow_sub-e : goal.overflow_sub-e
overflow_sub-e c =
    let items = c.self.inside.made.items in
    let lives : is_living items c.args.e ≡ true = subst (λ (v : Editions). is_living v.made c.args.e ≡ true) (sym c.self.view_is) c.requires.lives in
    let there = living-entry items c.args.e lives in
    edition_of-above 0 items c.args.e there.0 c.self.invariant.line.numbered there.1

pub index_mut-requires : goal.index_mut-requires
index_mut-requires c =
    let items = c.self.inside.made.items in
    let lives : is_living items c.args.e ≡ true = subst (λ (v : Editions). is_living v.made c.args.e ≡ true) (sym c.self.view_is) c.requires.lives in
    let there = living-entry items c.args.e lives in
    let low = edition_of-above 0 items c.args.e there.0 c.self.invariant.line.numbered there.1 in
    let high = edition_of-bound 0 items c.args.e there.0 c.self.invariant.line.numbered there.1 in
    omega (arith, low, high, c.self.inside.made.ok.0)

pub invariant_of-self : goal.invariant_of-self
invariant_of-self c =
    let items = c.self.inside.made.items in
    let lives : is_living items c.args.e ≡ true = subst (λ (v : Editions). is_living v.made c.args.e ≡ true) (sym c.self.view_is) c.requires.lives in
    let childless : child_of items c.args.e ≡ None = subst (λ (v : Editions). child_of v.made c.args.e ≡ None) (sym c.self.view_is) c.requires.childless in
    let other : c.args.e ≢ c.self.inside.default = subst (λ (v : Editions). c.args.e ≢ v.default) (sym c.self.view_is) c.requires.other in
    subst (λ made. IsIndexed made c.pop.new.self.entries c.self.inside.default) (sym (marked items c.args.e c.index_mut.result.now c.self.invariant.line.numbered lives c.index_mut.ensures.value))
    (removed items c.self.inside.living.entries c.self.inside.default c.self.invariant c.args.e c.pop.new.self.entries c.pop.result lives childless other c.pop.ensures.entries c.pop.ensures.found.1)

pub returns : goal.returns
returns c =
    let items = c.self.inside.made.items in
    let lives : is_living items c.args.e ≡ true = subst (λ (v : Editions). is_living v.made c.args.e ≡ true) (sym c.self.view_is) c.requires.lives in
    let with_made : List EditionEntry → Editions = λ made. record { made = made; default = c.self.inside.default } in
    ap with_made (marked items c.args.e c.index_mut.result.now c.self.invariant.line.numbered lives c.index_mut.ensures.value) ∙ ap (λ v. without_edition v c.args.e) c.self.view_is
