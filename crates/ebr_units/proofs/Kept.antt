-- Books that are kept, from one call to the next.
use Rattle.std.proofs.Common.{◌≡◌, ◌<◌, Bool, true, false, cond, List, [], ◌∷◌, ◌++◌, filter, Option, Some, None, IfSome, Result, Ok, Err, IfOk, OnOk, OnErr, refl, sym, ap, subst, ◌∙◌, arith}
use Rattle.std.specs.List.{All}
use Rattle.std.specs.Result.{IsErr}
use Rattle.std.proofs.lemmas.List.Elements.{All-head, All-tail, All-push, All-filter, All-weaker, filter_passes}
use Rattle.std.proofs.lemmas.Bool.{leb-true}
use Rattle.ebr_base.specs.declared.numbers.EditionNo.{EditionNo}
use Rattle.ebr_ast.specs.declared.view.EditionView.{EditionView}
use Rattle.ebr_ast.specs.Views.{IsInOrder}
use Rattle.ebr_editions.specs.Editions.{is_living}
use Rattle.ebr_editions.proofs.Lists.{same_edition, is_edition-same, false_true}
use Rattle.ebr_cross.specs.Catalogue.{Lists, IsViewOf, View}
use Rattle.ebr_laws.specs.Served.{HasCodeOf}
use Rattle.ebr_units.specs.Served.{served}
use Rattle.ebr_units.specs.Living.{is_of, view_in, AreCurrent, Keeps, Gives, GivesLiving}
use Rattle.ebr_units.specs.inside.Books.{is_up_to}

abbrev pub current : Lists → EditionView → Type 0
current c v = IsViewOf c v.edition v

pub has-code : (v : EditionView) → HasCodeOf v (served v)
has-code v = record { unit = λ key. refl; stamp = λ key. refl; objects = refl }

pub a-view : (c : Lists) (e : EditionNo) (w v : EditionView) → w ≡ v → v ≡ View c e → IsInOrder v → IsViewOf c e w
a-view c e w v same is order = record { is = same ∙ is; order = subst IsInOrder (sym same) order }

-- the code of another view that is this one
pub has-code-of : (v w : EditionView) → w ≡ v → HasCodeOf v (served w)
has-code-of v w is = subst (λ x. HasCodeOf v (served x)) (sym is) (has-code v)

-- A current book of an edition is of all that it sees.
pub found : (c : Lists) (e : EditionNo) (vs : List EditionView) → AreCurrent c vs → IfSome (view_in e vs) (λ v. IsViewOf c e v)
found c e [] all = tt
found c e (v ∷ vs) all = by (is_of e v) refl (All-head (current c) v vs all) (found c e vs (All-tail (current c) v vs all))
  where
    by : (b : Bool) → is_of e v ≡ b → IsViewOf c v.edition v → IfSome (view_in e vs) (λ w. IsViewOf c e w) → IfSome (cond b (Some v) (view_in e vs)) (λ w. IsViewOf c e w)
    by true t h rest = subst (λ d. IsViewOf c d v) (same_edition v.edition e t) h
    by false f h rest = rest

-- a book that is kept is found where another one is kept too
pub pushed : (e : EditionNo) (vs : List EditionView) (w v : EditionView) → view_in e vs ≡ Some v → view_in e (vs ++ w ∷ []) ≡ Some v
pushed e [] w v h = absurd cc
pushed e (x ∷ vs) w v h = by (is_of e x) (pushed e vs w v) h
  where
    by : (b : Bool) → (view_in e vs ≡ Some v → view_in e (vs ++ w ∷ []) ≡ Some v) → cond b (Some x) (view_in e vs) ≡ Some v → cond b (Some x) (view_in e (vs ++ w ∷ [])) ≡ Some v
    by true f h = h
    by false f h = f h

-- and so is the new one, where there was none of its edition
pub pushed-there : (e : EditionNo) (vs : List EditionView) (w : EditionView) → view_in e vs ≡ None → is_of e w ≡ true → view_in e (vs ++ w ∷ []) ≡ Some w
pushed-there e [] w h t = ap (λ b. cond b (Some w) None) t
pushed-there e (x ∷ vs) w h t = by (is_of e x) (λ g. pushed-there e vs w g t) h
  where
    by : (b : Bool) → (view_in e vs ≡ None → view_in e (vs ++ w ∷ []) ≡ Some w) → cond b (Some x) (view_in e vs) ≡ None → cond b (Some x) (view_in e (vs ++ w ∷ [])) ≡ Some w
    by true f h = absurd cc
    by false f h = f h

-- nothing changes
pub kept-all : (c : Lists) (vs : List EditionView) → AreCurrent c vs → Keeps c vs vs
kept-all c vs all = record { current = all; others = λ e h. h }

pub kept-same : (c : Lists) (old new : List EditionView) → AreCurrent c old → new ≡ old → Keeps c old new
kept-same c old new all is = subst (Keeps c old) (sym is) (kept-all c old all)

-- one book more
pub kept-more : (c : Lists) (e : EditionNo) (old : List EditionView) (w : EditionView) → AreCurrent c old → IsViewOf c e w → Keeps c old (old ++ w ∷ [])
kept-more c e old w all seen = record {
  current = All-push (current c) old w all (subst (λ d. IsViewOf c d w) (sym (ap (λ (v : EditionView). v.edition) seen.is)) seen);
  others = λ d h. pushed d old w (View c d) h;
}

-- a book that is kept is answered
pub gives-kept : {E : Type 0} (c : Lists) (e : EditionNo) (vs : List EditionView) (b : EditionView) (r : Result EditionView E) → AreCurrent c vs → view_in e vs ≡ Some b → IfOk r (λ x. x ≡ b) → Gives c e vs r vs
gives-kept c e vs b (Ok x) all is same =
    let h : IsViewOf c e b = subst (λ o. IfSome o (λ v. IsViewOf c e v)) is (found c e vs all) in
    record {
      book = subst (λ v. IsViewOf c e v) (sym same) h;
      code = has-code-of (View c e) x (same ∙ h.is);
      there = is ∙ ap Some h.is;
      keeps = kept-all c vs all;
    }
gives-kept c e vs b (Err x) all is same = record { book = tt; code = tt; there = tt; keeps = kept-all c vs all }

-- a book that was made is answered
pub gives-new : {E : Type 0} (c : Lists) (e : EditionNo) (old new : List EditionView) (w : EditionView) (r : Result EditionView E) → AreCurrent c old → IsViewOf c e w → view_in e old ≡ None
    → IfOk r (λ x. x ≡ w) → OnOk r (new ≡ old ++ w ∷ []) → OnErr r (new ≡ old) → Gives c e old r new
gives-new {E = E} c e old new w (Ok x) all seen none same more kept =
    let at : w.edition ≡ e = ap (λ (v : EditionView). v.edition) seen.is in
    subst (λ vs. Gives {E = E} c e old (Ok x) vs) (sym more) (record {
      book = subst (λ v. IsViewOf c e v) (sym same) seen;
      code = has-code-of (View c e) x (same ∙ seen.is);
      there = pushed-there e old w none (is_edition-same w.edition e (ap (λ (d : EditionNo). d.0) at)) ∙ ap Some seen.is;
      keeps = kept-more c e old w all seen;
    })
gives-new c e old new w (Err x) all seen none same more kept = record { book = tt; code = tt; there = tt; keeps = kept-same c old new all kept }

-- no book of an edition that doesn't live
pub gives-none : {E : Type 0} (c : Lists) (e : EditionNo) (vs : List EditionView) (lives : Bool) → lives ≡ is_living c.editions.made e → lives ≡ false → AreCurrent c vs → GivesLiving {E = E} c e vs (Ok None) vs
gives-none c e vs lives is gone all =
    let dead : is_living c.editions.made e ≡ false = sym is ∙ gone in
    record {
      book = record { is = sym (ap (λ b. cond b (Some (View c e)) None) dead); order = tt; code = tt };
      there = λ alive. false_true (sym dead ∙ alive);
      keeps = kept-all c vs all;
    }

-- the book of an edition that lives
pub gives-living : {E F : Type 0} (c : Lists) (e : EditionNo) (old new : List EditionView) (lives : Bool) (b : EditionView) (r : Result EditionView F) → lives ≡ is_living c.editions.made e → lives ≡ true → r ≡ Ok b → Gives c e old r new
    → GivesLiving {E = E} c e old (Ok (Some b)) new
gives-living {F = F} c e old new lives b r is there done given =
    let alive : is_living c.editions.made e ≡ true = sym is ∙ there in
    let g : Gives {E = F} c e old (Ok b) new = subst (λ x. Gives c e old x new) done given in
    record {
      book = record { is = ap Some g.book.is ∙ sym (ap (λ x. cond x (Some (View c e)) None) alive); order = g.book.order; code = g.code };
      there = λ living. g.there;
      keeps = g.keeps;
    }

pub gives-no-living : {E F : Type 0} (c : Lists) (e : EditionNo) (old new : List EditionView) (done : Result EditionView F) (r : Result (Option EditionView) E) → IsErr r → Gives c e old done new → GivesLiving c e old r new
gives-no-living c e old new done (Ok b) failed given = absurd cc
gives-no-living c e old new done (Err x) failed given = record { book = tt; there = tt; keeps = given.keeps }

pub on-err : {T E : Type 0} (P : Type 0) (r : Result T E) → IsErr r → OnOk r P
on-err P (Ok x) failed = absurd cc
on-err P (Err x) failed = tt

-- ---- the books of editions up to a number

pub kept-before : (p e : EditionNo) (old new : List EditionView) → new ≡ filter (is_up_to p) old → p.0 < e.0 → All (λ v. v.edition.0 < e.0) new
kept-before p e old new is low =
    subst (All (λ (v : EditionView). v.edition.0 < e.0)) (sym is)
    (All-weaker (λ (v : EditionView). is_up_to p v ≡ true) (λ (v : EditionView). v.edition.0 < e.0) (λ v h. let up = leb-true v.edition.0 p.0 h in omega (arith, up, low)) (filter (is_up_to p) old) (filter_passes (is_up_to p) old))

pub kept-current : (c : Lists) (p : EditionNo) (old new : List EditionView) → new ≡ filter (is_up_to p) old → AreCurrent c old → AreCurrent c new
kept-current c p old new is all = subst (AreCurrent c) (sym is) (All-filter (is_up_to p) (current c) old all)
