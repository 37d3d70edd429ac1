-- A search by halving in what stands in the order of its keys finds the place of a key.
use Rattle.std.proofs.Common.{◌≡◌, ℕ, ◌+◌, ◌<◌, ◌≤◌, Bool, true, false, cond, ◌&&◌, nat_lt, ◌⊎◌, inl, inr, List, length, map, get_or, find, slice_get, [], ◌∷◌, Some, None, Result, Ok, Err, refl, sym, ap, subst, ◌∙◌, arith}
use Rattle.std.specs.List.{position, position_or_len}
use Rattle.std.specs.List.Sorted.{IsStrictlySortedBy, IsNonDecreasingBy, IsBinarySearchResult, IsSearchInRange}
use Rattle.std.specs.Ordering.{nat_cmp, ordering_index, ordering_reverse, ordering_then, is_eq, is_lt}
use Rattle.std.specs.Cmp.{IsTotalOrder}
use Rattle.std.specs.Cmp.Lexicographic.{slice_cmp, on_texts}
use Rattle.std.specs.Str.{bytes_eq}
use Rattle.std.specs.declared.cmp.Ordering.{Ordering}
use Rattle.std.specs.declared.cmp.Ordering.TheVariants.{Less, Equal, Greater}
use Rattle.std.proofs.lemmas.Cmp.{nat_cmp_total, nat_list_cmp_total, then_total, on_total}
use Rattle.std.proofs.lemmas.List.{get_or-map, length-map}
use Rattle.std.proofs.lemmas.List.Folds.{find_at}
use Rattle.std.proofs.lemmas.List.Sorted.{searchable_from_sorted}
use Rattle.std.proofs.lemmas.List.Sums.{position_or_len_is}
use Rattle.std.proofs.lemmas.Map.Keys.{Less-from_sorted}
use Rattle.std.proofs.lemmas.Option.{slice_get_past}
use Rattle.std.proofs.lemmas.Map.Text.{is_eq-slice_cmp}
use Rattle.std.proofs.lemmas.Bool.{lt-ltb, le-ltb, ltb-false, cases_lt}
use Rattle.std.specs.Result.{result_ok}
use Rattle.ebr_base.specs.declared.object.Class.{Class}
use Rattle.ebr_base.specs.declared.object.Class.TheVariants as class
use Rattle.ebr_base.specs.declared.object.ObjectKey.{ObjectKey}
use Rattle.ebr_base.specs.Keys.{same_class, same_key, class_place, key_order}

is_eq-reverse : (o : Ordering) → is_eq (ordering_reverse o) ≡ is_eq o
is_eq-reverse Less = refl
is_eq-reverse Equal = refl
is_eq-reverse Greater = refl

names : (m n : List ℕ) → bytes_eq m n ≡ is_eq (slice_cmp nat_cmp n m)
names m n = sym (is_eq-slice_cmp m n) ∙ (sym (is_eq-reverse (slice_cmp nat_cmp m n)) ∙ ap is_eq (sym (nat_list_cmp_total.antisymm n m)))

classes : (a b : Class) (m n : List ℕ) → (same_class a b && bytes_eq m n) ≡ is_eq (ordering_then (nat_cmp (class_place b) (class_place a)) (slice_cmp nat_cmp n m))
classes class.Unit class.Unit m n = names m n
classes class.Unit class.Body m n = refl
classes class.Unit class.Trigger m n = refl
classes class.Body class.Unit m n = refl
classes class.Body class.Body m n = names m n
classes class.Body class.Trigger m n = refl
classes class.Trigger class.Unit m n = refl
classes class.Trigger class.Body m n = refl
classes class.Trigger class.Trigger m n = names m n

pub same-equal : (a b : ObjectKey) → same_key a b ≡ is_eq (key_order b a)
same-equal a b = classes a.class b.class a.name b.name

pub key_total : IsTotalOrder key_order
key_total = then_total (on_total (λ (k : ObjectKey). class_place k.class) nat_cmp_total) (on_texts (λ (k : ObjectKey). k.name))

is_lt-from_less : {K : Type 0} {R : K → K → Ordering} → IsTotalOrder R → (a b : K) → R a b ≡ Less → is_lt (R b a) ≡ false
is_lt-from_less o a b less = ap is_lt (o.antisymm b a ∙ ap ordering_reverse less)

module _ {X K : Type 0} {R : K → K → Ordering} (o : IsTotalOrder R) (key : X → K) (k : K) (p : X → Bool) (same : (x : X) → p x ≡ is_eq (R (key x) k)) where
  ordered : (xs : List X) → IsStrictlySortedBy R (map key xs) → (i j : ℕ) (d : X) → i < j → j < length xs → R (key (get_or xs i d)) (key (get_or xs j d)) ≡ Less
  ordered xs up i j d lt within =
      rw (← get_or-map key xs i d (key d) (omega arith), ← get_or-map key xs j d (key d) within)
      (Less-from_sorted R (map key xs) i j (key d) up lt (subst (λ (n : ℕ). j < n) (sym (length-map xs key)) within))

  rises : (xs : List X) → IsStrictlySortedBy R (map key xs) → IsNonDecreasingBy (λ y. ordering_index (R (key y) k)) xs
  rises xs up = searchable_from_sorted o key xs k (λ i d low high. is_lt-from_less o _ _ (ordered xs up i (i + 1) d (omega arith) high))

  -- what stands before the place of the key is less
  before : (x y : X) → R (key x) (key y) ≡ Less → R (key y) k ≡ Equal → p x ≡ false
  before x y less equal =
      same x ∙ ap is_eq (o.antisymm (key x) k ∙ ap ordering_reverse (o.congr k (key y) (key x) (o.antisymm k (key y) ∙ ap ordering_reverse equal) ∙ (o.antisymm (key y) (key x) ∙ ap ordering_reverse less)))

  placed : (xs : List X) (at : ℕ) → position_or_len p xs ≡ at → at < length xs → position p xs ≡ Some at
  placed xs at is within = subst (λ (n : ℕ). cond (nat_lt n (length xs)) (Some n) None ≡ Some at) (sym is) (ap (λ b. cond b (Some at) None) (lt-ltb at (length xs) within))

  nowhere : (xs : List X) → position_or_len p xs ≡ length xs → position p xs ≡ None
  nowhere xs is = ap (λ b. cond b (Some (position_or_len p xs)) None) (le-ltb (position_or_len p xs) (length xs) (omega (arith, is)))

  apart : (xs : List X) (at i : ℕ) (d : X) → ((j : ℕ) (e : X) → 0 ≤ j → j < at → R (key (get_or xs j e)) k ≡ Less) → ((j : ℕ) (e : X) → at ≤ j → j < length xs → R (key (get_or xs j e)) k ≡ Greater) → i < length xs → p (get_or xs i d) ≡ false
  apart xs at i d less greater within = by (cases_lt i at)
    where
      by : (i < at) ⊎ (at ≤ i) → p (get_or xs i d) ≡ false
      by (inl lt) = same _ ∙ ap is_eq (less i d (omega arith) lt)
      by (inr ge) = same _ ∙ ap is_eq (greater i d ge within)

  pub searched : (xs : List X) → IsStrictlySortedBy R (map key xs) → (r : Result ℕ ℕ) → IsSearchInRange r (length xs) → IsBinarySearchResult (λ y. R (key y) k) xs r → position p xs ≡ result_ok r
  searched [] up (Ok at) within equal = absurd (omega (arith, within))
  searched [] up (Err at) within parted = refl
  searched (x ∷ xs) up (Ok at) within equal =
      placed (x ∷ xs) at
      (position_or_len_is p (x ∷ xs) at x (omega (arith, within)) (λ i lt. before _ _ (ordered (x ∷ xs) up i at x lt within) (equal x)) (λ _. same _ ∙ ap is_eq (equal x)))
      within
  searched (x ∷ xs) up (Err at) within parted =
      let parts = parted (rises (x ∷ xs) up) in
      nowhere (x ∷ xs) (position_or_len_is p (x ∷ xs) (length (x ∷ xs)) x (omega arith) (λ i lt. apart (x ∷ xs) at i x parts.0 parts.1 lt) (λ bad. absurd (omega arith)))

module _ {X : Type 0} (p : X → Bool) where
  -- what is found stands at the first place
  pub found-at : (xs : List X) (at : ℕ) → position p xs ≡ Some at → find p xs ≡ slice_get xs at
  found-at xs at is = find_at p xs ∙ ap (slice_get xs) (by (nat_lt (position_or_len p xs) (length xs)) is)
    where
      by : (b : Bool) → cond b (Some (position_or_len p xs)) None ≡ Some at → position_or_len p xs ≡ at
      by true e = cc
      by false e = absurd cc

  pub found-none : (xs : List X) → position p xs ≡ None → find p xs ≡ None
  found-none [] is = refl
  found-none (x ∷ xs) is = by (nat_lt (position_or_len p (x ∷ xs)) (length (x ∷ xs))) refl is
    where
      by : (b : Bool) → nat_lt (position_or_len p (x ∷ xs)) (length (x ∷ xs)) ≡ b → cond b (Some (position_or_len p (x ∷ xs))) None ≡ None → find p (x ∷ xs) ≡ None
      by true at e = absurd cc
      by false at e = find_at p (x ∷ xs) ∙ slice_get_past (x ∷ xs) (position_or_len p (x ∷ xs)) (ltb-false _ _ at)
