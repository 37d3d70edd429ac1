-- The books of all living editions, made in the order of their numbers.
use Rattle.std.proofs.Common.{◌≡◌, ◌≤◌, ℕ, suc, ◌+◌, Bool, true, false, cond, List, [], ◌∷◌, fold, Option, Some, Result, Ok, refl, sym, ap, subst, ◌∙◌, arith}
use Rattle.ebr_base.specs.declared.numbers.EditionNo.{EditionNo}
use Rattle.ebr_ast.specs.declared.view.EditionView.{EditionView}
use Rattle.ebr_editions.specs.declared.entry.EditionEntry.{EditionEntry}
use Rattle.ebr_editions.specs.Editions.{Editions, IsLine, IsNumberedFrom, first_edition, is_edition, is_numbered, is_living, living_entry, edition_of, living, leaf}
use Rattle.ebr_editions.proofs.Lists.{by_test, false_true, same_edition, is_edition-same}
use Rattle.ebr_editions.proofs.Line.{living-entry, edition_of-above}
use Rattle.ebr_cross.specs.declared.catalogue.Catalogue.{Catalogue}
use Rattle.ebr_cross.specs.Catalogue.{Lists, View, as_catalogue}
use Rattle.ebr_laws.specs.Served.{HasCodeOf}
use Rattle.ebr_units.specs.Living.{served_by, AreCurrent, HasBook, ServeAll, Keeps, GivesLiving}
use Rattle.ebr_units.proofs.Kept.{has-code, kept-all}

-- ---- the numbers of living editions

abbrev last_of : EditionNo → List EditionEntry → EditionNo
last_of e xs = fold (λ d (x : EditionEntry). x.number) e xs

rises : (n : ℕ) (e : EditionNo) (xs : List EditionEntry) → IsNumberedFrom n xs → e.0 ≤ n → e.0 ≤ (last_of e (living xs)).0
rises n e [] h low = omega arith
rises n e (x ∷ xs) h low = by x.living (rises (suc n) e xs h.1 (omega (arith, low))) (rises (suc n) x.number xs h.1 (omega (arith, h.0)))
  where
    by : (b : Bool) → e.0 ≤ (last_of e (living xs)).0 → x.number.0 ≤ (last_of x.number (living xs)).0 → e.0 ≤ (last_of e (cond b (x ∷ living xs) (living xs))).0
    by true f g = omega (arith, low, h.0, g)
    by false f g = f

-- an edition that lives has no greater number than the last one that does
within : (n : ℕ) (d : EditionNo) (xs : List EditionEntry) (e : EditionNo) → IsNumberedFrom n xs → is_living xs e ≡ true → e.0 ≤ (last_of d (living xs)).0
within n d [] e h lives = false_true lives
within n d (x ∷ xs) e h lives = by (λ last there. within (suc n) last xs e h.1 there) x.living refl (is_numbered e x) refl lives
  where
    by : ((last : EditionNo) → is_living xs e ≡ true → e.0 ≤ (last_of last (living xs)).0) → (b : Bool) → x.living ≡ b → (t : Bool) → is_numbered e x ≡ t → living_entry (cond t (Some x) (edition_of xs e)) ≡ true → e.0 ≤ (last_of d (cond b (x ∷ living xs) (living xs))).0
    by f true l true t lives =
        let same : x.number.0 ≡ e.0 = ap (λ (y : EditionNo). y.0) (same_edition x.number e t) in
        let up = rises (suc n) x.number xs h.1 (omega (arith, h.0)) in
        omega (arith, same, up)
    by f true l false t lives = f x.number lives
    by f false l true t lives = false_true (sym l ∙ lives)
    by f false l false t lives = f d lives

pub at-most-leaf : (c : Editions) (e : EditionNo) → IsLine c → is_living c.made e ≡ true → e.0 ≤ (leaf c.made).0
at-most-leaf c e line lives = within 0 first_edition c.made e line.numbered lives

-- ---- one number after the other

-- the books of the living editions up to a number
pub record MadeUpTo (c : Lists) (old : List EditionView) (n : ℕ) (now : List EditionView) : Type 0 where
  pub made : (e : EditionNo) → is_living c.editions.made e ≡ true → e.0 ≤ n → HasBook c e now
  pub keeps : Keeps c old now

in-lists : (now : Catalogue) (c : Lists) → IsLine now.chain → now ≡ as_catalogue c → IsLine c.editions
in-lists now c line is = subst (λ (n : Catalogue). IsLine n.chain) is line

-- no edition has number 0
pub made-none : (now : Catalogue) (c : Lists) (vs : List EditionView) → IsLine now.chain → now ≡ as_catalogue c → AreCurrent c vs → MadeUpTo c vs 0 vs
made-none now c vs line is all = record {
  made = λ e lives low.
      let x = living-entry c.editions.made e lives in
      let above = edition_of-above 0 c.editions.made e x.0 (in-lists now c line is).numbered x.1 in
      absurd (omega (arith, low, above));
  keeps = kept-all c vs all;
}

pub made-one : {E : Type 0} (c : Lists) (old now next : List EditionView) (n : ℕ) (e : EditionNo) (b : Option EditionView) (r : Result (Option EditionView) E) → e.0 ≡ n + 1 → r ≡ Ok b → MadeUpTo c old n now → GivesLiving c e now r next → MadeUpTo c old (n + 1) next
made-one {E = E} c old now next n e b r at is before gives =
    let g : GivesLiving {E = E} c e now (Ok b) next = subst (λ x. GivesLiving c e now x next) is gives in
    record {
      made = λ d lives low.
          by_test (is_edition d e)
          (λ t. let same : d ≡ e = same_edition d e t in subst (λ x. HasBook c x next) (sym same) (g.there (subst (λ x. is_living c.editions.made x ≡ true) same lives)))
          (λ f.
          let other : d.0 ≡ e.0 → ⊥ = λ same. false_true (sym f ∙ is_edition-same d e same) in
          g.keeps.others d (before.made d lives (omega (arith, low, at, other))));
      keeps = record { current = g.keeps.current; others = λ d h. g.keeps.others d (before.keeps.others d h) };
    }

pub made-stops : {E : Type 0} (c : Lists) (old now next : List EditionView) (n : ℕ) (e : EditionNo) (r : Result (Option EditionView) E) → MadeUpTo c old n now → GivesLiving c e now r next → Keeps c old next
made-stops c old now next n e r before g = record { current = g.keeps.current; others = λ d h. g.keeps.others d (before.keeps.others d h) }

pub made-all : (now : Catalogue) (c : Lists) (old vs : List EditionView) (n last : ℕ) → IsLine now.chain → now ≡ as_catalogue c → last ≡ (leaf now.chain.made).0 → last ≤ n → MadeUpTo c old n vs → ServeAll c vs
made-all now c old vs n last line is at enough all = λ e lives.
    let low : e.0 ≤ (leaf c.editions.made).0 = at-most-leaf c.editions e (in-lists now c line is) lives in
    let end : last ≡ (leaf c.editions.made).0 = at ∙ ap (λ (x : Catalogue). (leaf x.chain.made).0) is in
    subst (λ o. HasCodeOf (View c e) (served_by o)) (sym (all.made e lives (omega (arith, low, end, enough)))) (has-code (View c e))
