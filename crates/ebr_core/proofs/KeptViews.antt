-- The views that are kept.
use Rattle.std.proofs.Common.{◌≡◌, ℕ, ◌<◌, Bool, true, false, cond, List, [], ◌∷◌, ◌++◌, Some, IfSome, Result, Ok, Err, IfOk, length, refl, sym, ap, subst, ◌∙◌}
use Rattle.std.specs.Prelude.{if◌then◌else◌, slice_index_or}
use Rattle.std.proofs.lemmas.List.Elements.{All-head, All-tail, All-push}
use Rattle.ebr_base.specs.declared.numbers.EditionNo.{EditionNo}
use Rattle.ebr_ast.specs.declared.view.EditionView.{EditionView}
use Rattle.ebr_ast.specs.Views.{IsInOrder}
use Rattle.ebr_editions.proofs.Lists.{same_edition}
use Rattle.ebr_cross.specs.Catalogue.{Lists, IsViewOf, View}
use Rattle.ebr_units.specs.Living.{is_of, view_in, AreCurrent}

abbrev current : Lists → EditionView → Type 0
current c v = IsViewOf c v.edition v

-- A current view of an edition is all that it sees.
found : (c : Lists) (e : EditionNo) (vs : List EditionView) → AreCurrent c vs → IfSome (view_in e vs) (λ v. IsViewOf c e v)
found c e [] all = tt
found c e (v ∷ vs) all = by (is_of e v) refl (All-head (current c) v vs all) (found c e vs (All-tail (current c) v vs all))
  where
    by : (b : Bool) → is_of e v ≡ b → IsViewOf c v.edition v → IfSome (view_in e vs) (λ w. IsViewOf c e w) → IfSome (cond b (Some v) (view_in e vs)) (λ w. IsViewOf c e w)
    by true t h rest = subst (λ d. IsViewOf c d v) (same_edition v.edition e t) h
    by false f h rest = rest

-- the answer is a view that is kept
pub answers-kept : {E : Type 0} (c : Lists) (e : EditionNo) (vs : List EditionView) (b : EditionView) (r : Result EditionView E) → AreCurrent c vs → view_in e vs ≡ Some b → IfOk r (λ x. x ≡ b) → IfOk r (λ v. IsViewOf c e v)
answers-kept c e vs b (Ok x) all is same =
    let h : IsViewOf c e b = subst (λ o. IfSome o (λ v. IsViewOf c e v)) is (found c e vs all) in
    subst (λ v. IsViewOf c e v) (sym same) h
answers-kept c e vs b (Err x) all is same = tt

-- a view that was made
pub a-view : (c : Lists) (e : EditionNo) (w v : EditionView) → w ≡ v → v ≡ View c e → IsInOrder v → IsViewOf c e w
a-view c e w v same is order = record { is = same ∙ is; order = subst IsInOrder (sym same) order }

-- a view of an edition is current
pub is-current : {E : Type 0} (c : Lists) (e : EditionNo) (w : EditionView) (r : Result EditionView E) → IsViewOf c e w → IfOk r (λ x. x ≡ w) → IfOk r (λ v. IsViewOf c v.edition v)
is-current c e w (Ok x) seen same =
    let at : e ≡ w.edition = sym (ap (λ (v : EditionView). v.edition) seen.is) in
    subst (λ v. IsViewOf c v.edition v) (sym same) (subst (λ d. IsViewOf c d w) at seen)
is-current c e w (Err x) seen same = tt

-- one view more, where there was memory for it
pub pushed : (c : Lists) (vs ws : List EditionView) (v : EditionView) (b : Bool) → ws ≡ (if b then vs ++ v ∷ [] else vs) → AreCurrent c vs → IsViewOf c v.edition v → AreCurrent c ws
pushed c vs ws v true e all h = subst (AreCurrent c) (sym e) (All-push (current c) vs v all h)
pushed c vs ws v false e all h = subst (AreCurrent c) (sym e) all

-- what became of a view by a record
pub is-current-then : {E : Type 0} (c : Lists) (e : EditionNo) (r : Result EditionView E) → IfOk r (λ v. IsViewOf c e v) → IfOk r (λ v. IsViewOf c v.edition v)
is-current-then c e (Ok x) seen = subst (λ d. IsViewOf c d x) (sym (ap (λ (v : EditionView). v.edition) seen.is)) seen
is-current-then c e (Err x) seen = tt

-- one of the current views
pub one-of : (c : Lists) (vs : List EditionView) (i : ℕ) (v : EditionView) → i < length vs → v ≡ slice_index_or vs i v → AreCurrent c vs → IsViewOf c v.edition v
one-of c vs i v lt read all = subst (λ w. IsViewOf c w.edition w) (sym read) (all i v lt)
