-- One key more in a list of keys in order, and what it changes in the list of what stands under these keys.
use Rattle.std.proofs.Common.{◌≡◌, ℕ, zero, suc, ◌+◌, ◌<◌, ◌≤◌, Bool, true, false, cond, ◌||◌, List, [], ◌∷◌, ◌++◌, map, filter, length, take, drop, get_or, Option, Some, None, is_some, Err, refl, sym, ap, ◌∙◌, subst, append-nil, arith}
use Rattle.std.specs.List.{filter_map, cons_option, list_any, AllByRecursion}
use Rattle.std.specs.Ordering.{match_ordering, ordering_index, ordering_reverse, is_eq, is_lt}
use Rattle.std.specs.declared.cmp.Ordering.{Ordering}
use Rattle.std.specs.declared.cmp.Ordering.TheVariants.{Less, Equal, Greater}
use Rattle.std.specs.List.Sorted.{IsStrictlySortedBy, IsNonDecreasingBy, IsBinarySearchResult}
use Rattle.std.specs.Cmp.{IsTotalOrder}
use Rattle.std.specs.BTreeSet.{insert_key}
use Rattle.std.proofs.lemmas.List.{get_or-map, length-map}
use Rattle.std.proofs.lemmas.List.Kept.{IsStrictlySortedBy-filter}
use Rattle.std.proofs.lemmas.List.Sorted.{searchable_from_sorted}
use Rattle.std.proofs.lemmas.Map.Keys.{Less-from_sorted}
use Rattle.ebr_shared_list.specs.Joined.{as_list}
use Rattle.ebr_cross.specs.Places.{placed}

module _ {K : Type 0} {R : K → K → Ordering} (o : IsTotalOrder R) where
  pub flipped : (a b : K) (r : Ordering) → R a b ≡ r → R b a ≡ ordering_reverse r
  flipped a b r h = o.antisymm b a ∙ ap ordering_reverse h

  -- what is below the first of a list in order is below all of it
  above_all : (k q : K) (qs : List K) → R k q ≡ Less → AllByRecursion (λ y. R q y ≡ Less) qs → AllByRecursion (λ y. R k y ≡ Less) qs
  above_all k q [] less all = tt
  above_all k q (y ∷ qs) less all = (o.trans k q y less all.0, above_all k q qs less all.1)

  -- an inserted key is above what is below all the others and it
  below_inserted : (q k : K) (qs : List K) → R q k ≡ Less → AllByRecursion (λ y. R q y ≡ Less) qs → AllByRecursion (λ y. R q y ≡ Less) (insert_key R qs k)
  below_inserted q k [] less all = (less, tt)
  below_inserted q k (y ∷ qs) less all = by (R k y) (below_inserted q k qs less all.1)
    where
      by : (r : Ordering) → AllByRecursion (λ y. R q y ≡ Less) (insert_key R qs k) → AllByRecursion (λ y. R q y ≡ Less) (match_ordering r (k ∷ y ∷ qs) (y ∷ qs) (y ∷ insert_key R qs k))
      by Less h = (less, all)
      by Equal h = all
      by Greater h = (all.0, h)

  -- an insertion keeps the order
  pub sorted-insert : (qs : List K) (k : K) → IsStrictlySortedBy R qs → IsStrictlySortedBy R (insert_key R qs k)
  unfolding IsStrictlySortedBy
  sorted-insert [] k up = (tt, tt)
  sorted-insert (q ∷ qs) k up = inserted (R k q) refl up (sorted-insert qs k up.1)
    where
      inserted : (r : Ordering) → R k q ≡ r → IsStrictlySortedBy R (q ∷ qs) → IsStrictlySortedBy R (insert_key R qs k) → IsStrictlySortedBy R (match_ordering r (k ∷ q ∷ qs) (q ∷ qs) (q ∷ insert_key R qs k))
      inserted Less e up h = ((e, above_all k q qs e up.0), up)
      inserted Equal e up h = up
      inserted Greater e up h = (below_inserted q k qs (flipped k q Greater e) up.0, h)

  none_above : (k : K) (qs : List K) → AllByRecursion (λ y. R k y ≡ Less) qs → list_any (λ y. is_eq (R k y)) qs ≡ false
  none_above k [] all = refl
  none_above k (q ∷ qs) all = ap (λ r. is_eq r || list_any (λ y. is_eq (R k y)) qs) all.0 ∙ none_above k qs all.1

  -- a key that is there stays alone
  pub insert-there : (qs : List K) (k : K) → IsStrictlySortedBy R qs → list_any (λ y. is_eq (R k y)) qs ≡ true → insert_key R qs k ≡ qs
  unfolding IsStrictlySortedBy
  insert-there [] k up there = absurd cc
  insert-there (q ∷ qs) k up there = by (R k q) refl up.0 (λ h. insert-there qs k up.1 h)
    where
      by : (r : Ordering) → R k q ≡ r → AllByRecursion (λ y. R q y ≡ Less) qs → (list_any (λ y. is_eq (R k y)) qs ≡ true → insert_key R qs k ≡ qs) → match_ordering r (k ∷ q ∷ qs) (q ∷ qs) (q ∷ insert_key R qs k) ≡ q ∷ qs
      by Less e all f =
          let none : list_any (λ y. is_eq (R k y)) (q ∷ qs) ≡ false = ap (λ r. is_eq r || list_any (λ y. is_eq (R k y)) qs) e ∙ none_above k qs (above_all k q qs e all) in
          absurd (let bad : true ≡ false = sym there ∙ none in cc)
      by Equal e all f = refl
      by Greater e all f = ap (λ ks. q ∷ ks) (f (sym (ap (λ r. is_eq r || list_any (λ y. is_eq (R k y)) qs) e) ∙ there))

-- what a test finds it finds after an insertion
pub any-insert : {K : Type 0} {R : K → K → Ordering} (exact : (a b : K) → R a b ≡ Equal → a ≡ b) (p : K → Bool) (qs : List K) (k : K) → list_any p (insert_key R qs k) ≡ (p k || list_any p qs)
any-insert exact p [] k = refl
any-insert {R = R} exact p (q ∷ qs) k = by (R k q) refl (any-insert exact p qs k)
  where
    twice : (b c : Bool) → (b || c) ≡ (b || (b || c))
    twice true c = refl
    twice false c = refl

    turned : (b c d : Bool) → (c || (b || d)) ≡ (b || (c || d))
    turned true true d = refl
    turned true false d = refl
    turned false true d = refl
    turned false false d = refl

    by : (r : Ordering) → R k q ≡ r → list_any p (insert_key R qs k) ≡ (p k || list_any p qs) → list_any p (match_ordering r (k ∷ q ∷ qs) (q ∷ qs) (q ∷ insert_key R qs k)) ≡ (p k || (p q || list_any p qs))
    by Less e h = refl
    by Equal e h = twice (p q) (list_any p qs) ∙ ap (λ x. p x || (p q || list_any p qs)) (sym (exact k q e))
    by Greater e h = ap (λ b. p q || b) h ∙ turned (p k) (p q) (list_any p qs)

-- each thing that is found stands under its own key
abbrev pub Owns : {K X : Type 0} → (X → K) → (K → Option X) → Type 0
Owns {K} {X} key f = (q : K) (x : X) → f q ≡ Some x → key x ≡ q

module _ {K X : Type 0} (R : K → K → Ordering) (key : X → K) where
  seen-keys : (f : K → Option X) → Owns key f → (qs : List K) → map key (filter_map f qs) ≡ filter (λ q. is_some (f q)) qs
  seen-keys f own [] = refl
  seen-keys f own (q ∷ qs) = by (f q) refl (seen-keys f own qs)
    where
      by : (r : Option X) → f q ≡ r → map key (filter_map f qs) ≡ filter (λ q. is_some (f q)) qs → map key (cons_option r (filter_map f qs)) ≡ cond (is_some r) (q ∷ filter (λ q. is_some (f q)) qs) (filter (λ q. is_some (f q)) qs)
      by None e h = h
      by (Some x) e h = ap (λ k. k ∷ map key (filter_map f qs)) (own q x e) ∙ ap (λ ks. q ∷ ks) h

  -- what is found under keys in order stands in order
  pub sorted-seen : (f : K → Option X) → Owns key f → (qs : List K) → IsStrictlySortedBy R qs → IsStrictlySortedBy R (map key (filter_map f qs))
  sorted-seen f own qs up = subst (IsStrictlySortedBy R) (sym (seen-keys f own qs)) (IsStrictlySortedBy-filter R (λ q. is_some (f q)) qs up)

  in-front : (k : K) (new : Option X) (xs : List X) → AllByRecursion (λ y. R k y ≡ Less) (map key xs) → placed R key k new xs ≡ as_list new ++ xs
  in-front k new [] all = sym (append-nil (as_list new))
  in-front k new (x ∷ xs) all = ap (λ r. match_ordering r (as_list new ++ (x ∷ xs)) (as_list new ++ xs) (x ∷ placed R key k new xs)) all.0

  seen-above : (k : K) (f : K → Option X) → Owns key f → (qs : List K) → AllByRecursion (λ y. R k y ≡ Less) qs → AllByRecursion (λ y. R k y ≡ Less) (map key (filter_map f qs))
  seen-above k f own [] all = tt
  seen-above k f own (q ∷ qs) all = by (f q) refl (seen-above k f own qs all.1)
    where
      by : (r : Option X) → f q ≡ r → AllByRecursion (λ y. R k y ≡ Less) (map key (filter_map f qs)) → AllByRecursion (λ y. R k y ≡ Less) (map key (cons_option r (filter_map f qs)))
      by None e h = h
      by (Some x) e h = (ap (R k) (own q x e) ∙ all.0, h)

  same-above : (o : IsTotalOrder R) (k : K) (f g : K → Option X) → ((q : K) → is_eq (R k q) ≡ false → g q ≡ f q) → (qs : List K) → AllByRecursion (λ y. R k y ≡ Less) qs → filter_map g qs ≡ filter_map f qs
  same-above o k f g same [] all = refl
  same-above o k f g same (q ∷ qs) all = ap (λ r. cons_option r (filter_map g qs)) (same q (ap is_eq all.0)) ∙ ap (cons_option (f q)) (same-above o k f g same qs all.1)

  as-front : (r : Option X) (xs : List X) → cons_option r xs ≡ as_list r ++ xs
  as-front None xs = refl
  as-front (Some x) xs = refl

  -- Where one key alone shows something else, what keys in order show is what they showed, with what that key shows now.
  pub seen-placed : (o : IsTotalOrder R) → ((a b : K) → R a b ≡ Equal → a ≡ b) → (k : K) (f g : K → Option X) → Owns key f → ((q : K) → is_eq (R k q) ≡ false → g q ≡ f q)
      → (qs : List K) → IsStrictlySortedBy R qs → filter_map g (insert_key R qs k) ≡ placed R key k (g k) (filter_map f qs)
  unfolding IsStrictlySortedBy
  seen-placed o exact k f g own same [] up = as-front (g k) [] ∙ append-nil (as_list (g k))
  seen-placed o exact k f g own same (q ∷ qs) up = by (R k q) refl up.0 (seen-placed o exact k f g own same qs up.1)
    where
      shown : List X → List X
      shown xs = placed R key k (g k) xs

      at : (x : X) (s : Ordering) → f q ≡ Some x → R k q ≡ s → R k (key x) ≡ s
      at x s e t = ap (R k) (own q x e) ∙ t

      equal : (r : Option X) → f q ≡ r → R k q ≡ Equal → AllByRecursion (λ y. R k y ≡ Less) qs → shown (cons_option r (filter_map f qs)) ≡ as_list (g k) ++ filter_map f qs
      equal None e t all = in-front k (g k) (filter_map f qs) (seen-above k f own qs all)
      equal (Some x) e t all = ap (λ s. match_ordering s (as_list (g k) ++ (x ∷ filter_map f qs)) (as_list (g k) ++ filter_map f qs) (x ∷ shown (filter_map f qs))) (at x Equal e t)

      greater : (r : Option X) → f q ≡ r → R k q ≡ Greater → shown (cons_option r (filter_map f qs)) ≡ cons_option r (shown (filter_map f qs))
      greater None e t = refl
      greater (Some x) e t = ap (λ s. match_ordering s (as_list (g k) ++ (x ∷ filter_map f qs)) (as_list (g k) ++ filter_map f qs) (x ∷ shown (filter_map f qs))) (at x Greater e t)

      by : (s : Ordering) → R k q ≡ s → AllByRecursion (λ y. R q y ≡ Less) qs → filter_map g (insert_key R qs k) ≡ shown (filter_map f qs)
          → filter_map g (match_ordering s (k ∷ q ∷ qs) (q ∷ qs) (q ∷ insert_key R qs k)) ≡ shown (filter_map f (q ∷ qs))
      by Less t all h =
          let above : AllByRecursion (λ y. R k y ≡ Less) (q ∷ qs) = (t, above_all o k q qs t all) in
          as-front (g k) (filter_map g (q ∷ qs))
          ∙ (ap (λ xs. as_list (g k) ++ xs) (same-above o k f g same (q ∷ qs) above)
          ∙ sym (in-front k (g k) (filter_map f (q ∷ qs)) (seen-above k f own (q ∷ qs) above)))
      by Equal t all h =
          let is : k ≡ q = exact k q t in
          let above : AllByRecursion (λ y. R k y ≡ Less) qs = subst (λ a. AllByRecursion (λ y. R a y ≡ Less) qs) (sym is) all in
          as-front (g q) (filter_map g qs)
          ∙ (ap (λ a. as_list (g a) ++ filter_map g qs) (sym is)
          ∙ (ap (λ xs. as_list (g k) ++ xs) (same-above o k f g same qs above)
          ∙ sym (equal (f q) refl t above)))
      by Greater t all h =
          ap (λ r. cons_option r (filter_map g (insert_key R qs k))) (same q (ap is_eq t))
          ∙ (ap (cons_option (f q)) h ∙ sym (greater (f q) refl t))

  -- a key that shows nothing may be among the keys or not
  pub seen-nothing : (f : K → Option X) (k : K) → ((a b : K) → R a b ≡ Equal → a ≡ b) → f k ≡ None → (qs : List K) → filter_map f (insert_key R qs k) ≡ filter_map f qs
  seen-nothing f k exact none [] = ap (λ r. cons_option r []) none
  seen-nothing f k exact none (q ∷ qs) = by (R k q) (seen-nothing f k exact none qs)
    where
      by : (s : Ordering) → filter_map f (insert_key R qs k) ≡ filter_map f qs → filter_map f (match_ordering s (k ∷ q ∷ qs) (q ∷ qs) (q ∷ insert_key R qs k)) ≡ filter_map f (q ∷ qs)
      by Less h = ap (λ r. cons_option r (filter_map f (q ∷ qs))) none
      by Equal h = refl
      by Greater h = ap (cons_option (f q)) h

  head-less : (k : K) (z : X) (zs : List X) (at : ℕ) → ((j : ℕ) (d : X) → j < suc at → R (key (get_or (z ∷ zs) j d)) k ≡ Less) → R (key z) k ≡ Less
  head-less k z zs at less = less 0 z (omega arith)

  -- what stands at the place that a search found is replaced
  pub placed-found : (o : IsTotalOrder R) (k : K) (new : Option X) (zs : List X) (at : ℕ) → at < length zs → ((j : ℕ) (d : X) → j < at → R (key (get_or zs j d)) k ≡ Less) → ((d : X) → R (key (get_or zs at d)) k ≡ Equal)
      → placed R key k new zs ≡ take at zs ++ (as_list new ++ drop (suc at) zs)
  placed-found o k new [] at lt less equal = absurd (omega (arith, lt))
  placed-found o k new (z ∷ zs) zero lt less equal =
      ap (λ r. match_ordering r (as_list new ++ (z ∷ zs)) (as_list new ++ zs) (z ∷ placed R key k new zs)) (flipped o (key z) k Equal (equal z))
  placed-found o k new (z ∷ zs) (suc at) lt less equal =
      ap (λ r. match_ordering r (as_list new ++ (z ∷ zs)) (as_list new ++ zs) (z ∷ placed R key k new zs)) (flipped o (key z) k Less (head-less k z zs at less))
      ∙ ap (λ xs. z ∷ xs) (placed-found o k new zs at (omega arith) (λ j d l. less (suc j) d (omega arith)) equal)

  -- where a search found nothing, something is put between what is less and what is greater
  pub placed-between : (o : IsTotalOrder R) (k : K) (new : Option X) (zs : List X) (at : ℕ) → at ≤ length zs → ((j : ℕ) (d : X) → j < at → R (key (get_or zs j d)) k ≡ Less)
      → ((j : ℕ) (d : X) → at ≤ j → j < length zs → R (key (get_or zs j d)) k ≡ Greater) → placed R key k new zs ≡ take at zs ++ (as_list new ++ drop at zs)
  placed-between o k new [] zero lt less greater = sym (append-nil (as_list new))
  placed-between o k new (z ∷ zs) zero lt less greater =
      ap (λ r. match_ordering r (as_list new ++ (z ∷ zs)) (as_list new ++ zs) (z ∷ placed R key k new zs)) (flipped o (key z) k Greater (greater 0 z (omega arith) (omega arith)))
  placed-between o k new [] (suc at) lt less greater = absurd (omega (arith, lt))
  placed-between o k new (z ∷ zs) (suc at) lt less greater =
      ap (λ r. match_ordering r (as_list new ++ (z ∷ zs)) (as_list new ++ zs) (z ∷ placed R key k new zs)) (flipped o (key z) k Less (head-less k z zs at less))
      ∙ ap (λ xs. z ∷ xs) (placed-between o k new zs at (omega arith) (λ j d l. less (suc j) d (omega arith)) (λ j d low high. greater (suc j) d (omega arith) (omega arith)))

  ordered : (xs : List X) → IsStrictlySortedBy R (map key xs) → (i j : ℕ) (d : X) → i < j → j < length xs → R (key (get_or xs i d)) (key (get_or xs j d)) ≡ Less
  ordered xs up i j d lt within =
      rw (← get_or-map key xs i d (key d) (omega arith), ← get_or-map key xs j d (key d) within)
      (Less-from_sorted R (map key xs) i j (key d) up lt (subst (λ (n : ℕ). j < n) (sym (length-map xs key)) within))

  rises : (o : IsTotalOrder R) (k : K) (xs : List X) → IsStrictlySortedBy R (map key xs) → IsNonDecreasingBy (λ y. ordering_index (R (key y) k)) xs
  rises o k xs up = searchable_from_sorted o key xs k (λ i d low high. ap is_lt (flipped o _ _ Less (ordered xs up i (i + 1) d (omega arith) high)))

  less-before : (o : IsTotalOrder R) (k : K) (x y : X) → R (key x) (key y) ≡ Less → R (key y) k ≡ Equal → R (key x) k ≡ Less
  less-before o k x y less equal = flipped o k (key x) Greater (o.congr k (key y) (key x) (flipped o (key y) k Equal equal) ∙ flipped o (key x) (key y) Less less)

  -- what a search by halving found is replaced
  pub around-found : (o : IsTotalOrder R) (k : K) (new : Option X) (zs : List X) (at : ℕ) → IsStrictlySortedBy R (map key zs) → at < length zs → ((d : X) → R (key (get_or zs at d)) k ≡ Equal)
      → placed R key k new zs ≡ take at zs ++ (as_list new ++ drop (at + 1) zs)
  around-found o k new zs at up lt equal =
      let next : suc at ≡ at + 1 = omega arith in
      placed-found o k new zs at lt (λ j d l. less-before o k _ (get_or zs at d) (ordered zs up j at d l lt) (equal d)) equal
      ∙ ap (λ n. take at zs ++ (as_list new ++ drop n zs)) next

  -- where it found nothing, something is put between
  pub around-between : (o : IsTotalOrder R) (k : K) (new : Option X) (zs : List X) (at : ℕ) → IsStrictlySortedBy R (map key zs) → at ≤ length zs → IsBinarySearchResult (λ y. R (key y) k) zs (Err at)
      → placed R key k new zs ≡ take at zs ++ (as_list new ++ drop at zs)
  around-between o k new zs at up lt parted =
      let parts = parted (rises o k zs up) in
      placed-between o k new zs at lt (λ j d l. parts.0 j d (omega arith) l) (λ j d low high. parts.1 j d low high)
