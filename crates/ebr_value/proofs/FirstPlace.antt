-- The place that INSTR gives is the first one where its second text stands.
use Rattle.std.proofs.Common.{ℕ, zero, suc, ◌≡◌, ◌<◌, ◌≤◌, ◌+◌, Bool, true, false, List, [], ◌∷◌, ◌++◌, length, take, drop, refl, sym, ap, subst, inl, inr, ◌∙◌, arith, add-one, Option, Some, None, nat_eq}
use Rattle.std.specs.Option.{option_map}
use Rattle.std.specs.List.{starts_with}
use Rattle.std.specs.Cmp.Lexicographic.{pointwise, same_text}
use Rattle.std.proofs.Math.Seq.{drop-append_seam, take-append_seam}
use Rattle.std.proofs.lemmas.List.{take-append-drop, length-take}
use Rattle.std.proofs.lemmas.Bool.{and_from, cond-true, cond-false, cases_Bool, eq-eqb, false≢true}
use Rattle.ebr_value.specs.Places.{first_place, counted, place_of, StandsAt, IsFirstPlace}
use Rattle.ebr_value.proofs.Places.{some-same, none≢some}

list-same : (xs : List ℕ) → pointwise nat_eq xs xs ≡ true
list-same [] = refl
list-same (x ∷ xs) = and_from (nat_eq x x) (pointwise nat_eq xs xs) (eq-eqb x x refl) (list-same xs)

-- what begins with y is y and what follows
begins_is : (y rest : List ℕ) → starts_with nat_eq rest y ≡ true → rest ≡ y ++ drop (length y) rest
begins_is y rest h = sym (take-append-drop (length y) rest) ∙ ap (λ xs. xs ++ drop (length y) rest) (sym (same_text y (take (length y) rest) (sym h)))

pub begins_with : (y after : List ℕ) → starts_with nat_eq (y ++ after) y ≡ true
begins_with y after = ap (pointwise nat_eq y) (take-append_seam y after) ∙ list-same y

-- a place that was found, and one that comes before it

pub record IsFound (test : List ℕ → Bool) (t : List ℕ) (k : ℕ) : Type 0 where
  pub within : k ≤ length t
  pub passes : test (drop k t) ≡ true
  pub first : (m : ℕ) → m < k → test (drop m t) ≡ false

before : (test : List ℕ → Bool) (b : ℕ) (bs : List ℕ) (j : ℕ) → test (b ∷ bs) ≡ false → ((m : ℕ) → m < j → test (drop m bs) ≡ false) → (m : ℕ) → m < suc j → test (drop m (b ∷ bs)) ≡ false
before test b bs j f below zero l = f
before test b bs j f below (suc m) l = below m (omega (arith, l))

at_any : (test : List ℕ → Bool) (b : ℕ) (bs : List ℕ) → test (b ∷ bs) ≡ false → ((m : ℕ) → test (drop m bs) ≡ false) → (m : ℕ) → test (drop m (b ∷ bs)) ≡ false
at_any test b bs f below zero = f
at_any test b bs f below (suc m) = below m

drop_nothing : (m : ℕ) → drop {A = ℕ} m [] ≡ []
drop_nothing zero = refl
drop_nothing (suc m) = refl

at_front : (test : List ℕ → Bool) (t : List ℕ) (k : ℕ) → test t ≡ true → 0 ≡ k → IsFound test t k
at_front test t k p e = subst (IsFound test t) e (record { within = omega arith; passes = p; first = λ m l. absurd (omega (arith, l)) })

found_more : (test : List ℕ → Bool) (b : ℕ) (bs : List ℕ) (o : Option ℕ) (k : ℕ) → option_map (λ n. n + 1) o ≡ Some k → test (b ∷ bs) ≡ false → ((j : ℕ) → o ≡ Some j → IsFound test bs j) → IsFound test (b ∷ bs) k
found_more test b bs None k e f rec = absurd (none≢some k e)
found_more test b bs (Some j) k e f rec =
    let r = rec j refl in
    let s : suc j ≡ k = sym (add-one j) ∙ some-same (j + 1) k e in
    subst (IsFound test (b ∷ bs)) s (record { within = omega (arith, r.within); passes = r.passes; first = before test b bs j f r.first })

found : (test : List ℕ → Bool) (t : List ℕ) (k : ℕ) → first_place test t ≡ Some k → IsFound test t k
found test [] k h =
    elim (cases_Bool (test [])) [
      | inl p ↦ at_front test [] k p (some-same 0 k (sym (cond-true _ _ _ p) ∙ h))
      | inr f ↦ absurd (none≢some k (sym (cond-false _ _ _ f) ∙ h))
    ]
found test (b ∷ bs) k h =
    elim (cases_Bool (test (b ∷ bs))) [
      | inl p ↦ at_front test (b ∷ bs) k p (some-same 0 k (sym (cond-true _ _ _ p) ∙ h))
      | inr f ↦ found_more test b bs (first_place test bs) k (sym (cond-false _ _ _ f) ∙ h) f (found test bs)
    ]

not_found_more : (test : List ℕ → Bool) (o : Option ℕ) → option_map (λ n. n + 1) o ≡ None → o ≡ None
not_found_more test None e = refl
not_found_more test (Some j) e = absurd (none≢some (j + 1) (sym e))

not_found : (test : List ℕ → Bool) (t : List ℕ) → first_place test t ≡ None → (m : ℕ) → test (drop m t) ≡ false
not_found test [] h m =
    elim (cases_Bool (test [])) [
      | inl p ↦ absurd (none≢some 0 (sym h ∙ cond-true _ _ _ p))
      | inr f ↦ ap test (drop_nothing m) ∙ f
    ]
not_found test (b ∷ bs) h m =
    elim (cases_Bool (test (b ∷ bs))) [
      | inl p ↦ absurd (none≢some 0 (sym h ∙ cond-true _ _ _ p))
      | inr f ↦ at_any test b bs f (not_found test bs (not_found_more test (first_place test bs) (sym (cond-false _ _ _ f) ∙ h))) m
    ]

-- a place where y stands passes the test
passes : (t y : List ℕ) (m : ℕ) → StandsAt t y m → (before : List ℕ) × (m ≡ length before + 1) × (starts_with nat_eq (drop (length before) t) y ≡ true)
passes t y m s = (s.0, s.3, ap (λ xs. starts_with nat_eq (drop (length s.0) xs) y) s.2 ∙ ap (λ xs. starts_with nat_eq xs y) (drop-append_seam s.0 (y ++ s.1)) ∙ begins_with y s.1)

first_by : (t y : List ℕ) (o : Option ℕ) → first_place (λ rest. starts_with nat_eq rest y) t ≡ o → IsFirstPlace t y (counted o)
first_by t y None e = λ m s.
    let p = passes t y m s in
    false≢true (sym (not_found (λ rest. starts_with nat_eq rest y) t e (length p.0)) ∙ p.2)
first_by t y (Some k) e =
    let f = found (λ rest. starts_with nat_eq rest y) t k e in
    let l : length (take k t) ≡ k = omega (arith, length-take k t, f.within) in
    rw add-one (
      (take k t, drop (length y) (drop k t), sym (take-append-drop k t) ∙ ap (λ xs. take k t ++ xs) (begins_is y (drop k t) f.passes), omega (arith, l)),
      λ m lt s.
          let p = passes t y m s in
          let e1 : length p.0 < k = omega (arith, p.1, lt) in
          false≢true (sym (f.first (length p.0) e1) ∙ p.2),
    )

pub place_is_first : (t y : List ℕ) → IsFirstPlace t y (place_of t y)
place_is_first t y = first_by t y (first_place (λ rest. starts_with nat_eq rest y) t) refl

place_by : (o : Option ℕ) (n : ℕ) → ((k : ℕ) → o ≡ Some k → k ≤ n) → counted o ≤ n + 1
place_by None n h = omega arith
place_by (Some k) n h = let l : k ≤ n = h k refl in omega arith

pub place-within : (t y : List ℕ) → place_of t y ≤ length t + 1
place-within t y = place_by (first_place (λ rest. starts_with nat_eq rest y) t) (length t) (λ k e. (found (λ rest. starts_with nat_eq rest y) t k e).within)
