-- The place that a search finds is the first one.
use Rattle.std.proofs.Common.{ℕ, ◌≡◌, ◌<◌, ◌+◌, true, false, List, [], ◌∷◌, length, take, drop, length-take, length-drop, sym, ap, ◌∙◌, refl, arith, Option, Some, None, nat_eq}
use Rattle.std.specs.List.{starts_with}
use Rattle.std.specs.Cmp.Lexicographic.{same_text}
use Rattle.std.proofs.lemmas.Bool.{false_from_ne_true}
use Rattle.memchr.specs.Find.{OccursAt, FindsNeedle}
use Rattle.memchr.proofs.lemmas.MatchLemmas.{OccursAt-split, OccursAt-from_part}
use Rattle.ebr_value.specs.Places.{counted, place_of}
use Rattle.ebr_value.proofs.Places.{a_place, no_place}
use Rattle.ebr_value.proofs.FirstPlace.{begins_with}

occurs : (t y : List ℕ) (k : ℕ) → OccursAt t y k → starts_with nat_eq (drop k t) y ≡ true
occurs t y k h = ap (λ xs. starts_with nat_eq xs y) (OccursAt-split t y k h) ∙ begins_with y (drop (k + length y) t)

there : (t y : List ℕ) (k : ℕ) → 0 < length y → starts_with nat_eq (drop k t) y ≡ true → OccursAt t y k
there t y k some s =
    let same : take (length y) (drop k t) ≡ y = sym (same_text y (take (length y) (drop k t)) (sym s)) in
    OccursAt-from_part t y k (omega (arith, ap length same, length-take (length y) (drop k t), length-drop k t, some)) same

not_there : (t y : List ℕ) (k : ℕ) → 0 < length y → (OccursAt t y k → ⊥) → starts_with nat_eq (drop k t) y ≡ false
not_there t y k some n = false_from_ne_true _ (λ s. n (there t y k some s))

positive : (y : List ℕ) → (y ≡ [] → ⊥) → 0 < length y
positive [] some = absurd (some refl)
positive (b ∷ bs) some = omega arith

pub place_found : (t y : List ℕ) (r : Option ℕ) → (y ≡ [] → ⊥) → FindsNeedle t y 0 r → counted r ≡ place_of t y
place_found t y None some h =
    let l = positive y some in
    sym (no_place y t (length t) some (omega arith) (λ k lt. not_there t y k l (h k (omega arith) (omega (arith, lt)))))
place_found t y (Some k) some h =
    let l = positive y some in
    sym (a_place y t k (omega (arith, l, h.1.fits)) (λ j lt. not_there t y j l (h.0.before j (omega arith) lt)) (occurs t y k h.1))
