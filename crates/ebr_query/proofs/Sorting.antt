-- A list in order is told by what it has of each rank.
use Rattle.std.proofs.Common.{◌≡◌, ℕ, suc, ◌+◌, ◌<◌, Bool, true, false, not, ◌&&◌, cond, List, [], ◌∷◌, filter, length, get_or, refl, sym, ap, ◌∙◌, subst, arith}
use Rattle.std.specs.Cmp.{IsStrictWeakOrder}
use Rattle.std.specs.List.{All, AllPairs}
use Rattle.std.specs.List.Sorted.{IsPermutation, IsSortedBy, IsStableBy, ties}
use Rattle.std.proofs.lemmas.List.Elements.{All-nil, All-cons}
use Rattle.std.proofs.lemmas.List.Kept.{AllPairs-cons}
use Rattle.std.proofs.lemmas.List.Sorted.{sorted_far, IsPermutation-refl, IsPermutation-cons, IsPermutation-middle, IsPermutation-trans}
use Rattle.ebr_query.specs.Order.{put, in_order}

abbrev pub head_or : {A : Type 0} → A → List A → A
head_or d [] = d
head_or d (x ∷ xs) = x

abbrev pub tail_of : {A : Type 0} → List A → List A
tail_of [] = []
tail_of (x ∷ xs) = xs

abbrev pub is_some_element : {A : Type 0} → List A → Bool
is_some_element [] = false
is_some_element (x ∷ xs) = true

differ : (b : Bool) → b ≡ true → b ≡ false → ⊥
differ b e f = grind (arith, e, f)

and-false : (b : Bool) → (b && false) ≡ false
and-false true = refl
and-false false = refl

first-false : (b c : Bool) → (not b && not c) ≡ true → b ≡ false
first-false true c e = sym e
first-false false c e = refl

module _ {A : Type 0} (before : A → A → Bool) (o : IsStrictWeakOrder before) where
  -- none of these is before that one
  abbrev pub Behind : A → List A → Type 0
  Behind x [] = Unit {0}
  Behind x (y ∷ ys) = (before y x ≡ false) × Behind x ys

  abbrev pub InOrder : List A → Type 0
  InOrder [] = Unit {0}
  InOrder (x ∷ xs) = Behind x xs × InOrder xs

  irreflexive : (x : A) → before x x ≡ false
  irreflexive x = at (before x x) refl
    where
      at : (b : Bool) → before x x ≡ b → b ≡ false
      at true e = sym e ∙ o.one_way x x e
      at false e = refl

  ties-itself : (x : A) → ties before x x ≡ true
  ties-itself x = ap (λ b. not b && not b) (irreflexive x)

  ties-from : (x y : A) → before x y ≡ false → before y x ≡ false → ties before x y ≡ true
  ties-from x y h k = ap (λ b. not b && not (before y x)) h ∙ ap (λ b. not false && not b) k

  -- from the words of a sort
  behind-from : (x : A) (ys : List A) → ((j : ℕ) (d : A) → j < length ys → before (get_or ys j d) x ≡ false) → Behind x ys
  behind-from x [] h = tt
  behind-from x (y ∷ ys) h = (h 0 y (omega arith), behind-from x ys (λ j d l. h (suc j) d (omega (arith, l))))

  sorted-tail : (x : A) (xs : List A) → IsSortedBy before (x ∷ xs) → IsSortedBy before xs
  sorted-tail x xs s = λ k d z l. sorted_far before o (x ∷ xs) s (suc k) (suc (k + 1)) d (omega arith) (omega (arith, l))

  pub from-sorted : (xs : List A) → IsSortedBy before xs → InOrder xs
  from-sorted [] s = tt
  from-sorted (x ∷ xs) s =
      (behind-from x xs (λ j d l. sorted_far before o (x ∷ xs) s 0 (suc j) d (omega arith) (omega (arith, l))), from-sorted xs (sorted-tail x xs s))

  -- an element of a list that stands behind another one
  behind-step : (p : A → Bool) (x y z : A) (ys zs : List A) (b : Bool) → before z y ≡ false → (filter p ys ≡ x ∷ zs → before x y ≡ false)
      → cond b (z ∷ filter p ys) (filter p ys) ≡ x ∷ zs → before x y ≡ false
  behind-step p x y z ys zs true h rest e = subst (λ a. before a y ≡ false) (ap (head_or z) e) h
  behind-step p x y z ys zs false h rest e = rest e

  one-behind : (p : A → Bool) (x y : A) (ys zs : List A) → Behind y ys → filter p ys ≡ x ∷ zs → before x y ≡ false
  one-behind p x y [] zs h e = absurd (differ false (ap is_some_element e) refl)
  one-behind p x y (z ∷ ys) zs h e = behind-step p x y z ys zs (p z) h.0 (one-behind p x y ys zs h.1) e

  -- two lists in order that have the same of each rank begin with the same element
  first-step : (x y : A) (xs ys : List A) (b : Bool) → ties before x y ≡ b → Behind x xs → Behind y ys
      → x ∷ filter (ties before x) xs ≡ cond b (y ∷ filter (ties before x) ys) (filter (ties before x) ys)
      → (b ≡ false → before y x ≡ false) → x ≡ y
  first-step x y xs ys true t h k e f = ap (head_or x) e
  first-step x y xs ys false t h k e f =
      absurd (differ (ties before x y) (ties-from x y (one-behind (ties before x) x y ys (filter (ties before x) xs) k (sym e)) (f refl)) t)

  own-first : (x : A) (xs : List A) → filter (ties before x) (x ∷ xs) ≡ x ∷ filter (ties before x) xs
  own-first x xs = ap (λ b. cond b (x ∷ filter (ties before x) xs) (filter (ties before x) xs)) (ties-itself x)

  other-step : (x y : A) (xs ys : List A) (b : Bool) → ties before y x ≡ b → Behind x xs
      → cond b (x ∷ filter (ties before y) xs) (filter (ties before y) xs) ≡ y ∷ filter (ties before y) ys → before y x ≡ false
  other-step x y xs ys true t h e = subst (λ a. before a x ≡ false) (ap (head_or x) e) (irreflexive x)
  other-step x y xs ys false t h e = one-behind (ties before y) y x xs (filter (ties before y) ys) h e

  same-first : (x y : A) (xs ys : List A) → Behind x xs → Behind y ys
      → ((a : A) → filter (ties before a) (x ∷ xs) ≡ filter (ties before a) (y ∷ ys)) → x ≡ y
  same-first x y xs ys h k same =
      first-step x y xs ys (ties before x y) refl h k (sym (own-first x xs) ∙ same x)
      (λ e. other-step x y xs ys (ties before y x) refl h (same y ∙ own-first y ys))

  rest-step : (x : A) (fs gs : List A) (b : Bool) → cond b (x ∷ fs) fs ≡ cond b (x ∷ gs) gs → fs ≡ gs
  rest-step x fs gs true e = ap tail_of e
  rest-step x fs gs false e = e

  pub only-one : (xs ys : List A) → InOrder xs → InOrder ys → ((a : A) → filter (ties before a) xs ≡ filter (ties before a) ys) → xs ≡ ys
  only-one [] [] h k same = refl
  only-one [] (y ∷ ys) h k same = absurd (differ false (ap is_some_element (same y ∙ own-first y ys)) refl)
  only-one (x ∷ xs) [] h k same = absurd (differ false (ap is_some_element (sym (same x) ∙ own-first x xs)) refl)
  only-one (x ∷ xs) (y ∷ ys) h k same =
      let e = same-first x y xs ys h.0 k.0 same in
      let rest : (a : A) → filter (ties before a) xs ≡ filter (ties before a) ys = λ a. rest-step x (filter (ties before a) xs) (filter (ties before a) ys) (ties before a x) (same a ∙ ap (λ z. filter (ties before a) (z ∷ ys)) (sym e)) in
      ap (λ z. z ∷ xs) e ∙ ap (λ zs. y ∷ zs) (only-one xs ys h.1 k.1 rest)

  -- ---- what `in_order` gives

  behind-put-step : (x y z : A) (ys puts : List A) (b : Bool) → before x y ≡ false → Behind y (z ∷ ys) → Behind y puts
      → Behind y (cond b (z ∷ puts) (x ∷ z ∷ ys))
  behind-put-step x y z ys puts true h k p = (k.0, p)
  behind-put-step x y z ys puts false h k p = (h, k)

  behind-put : (x y : A) (ys : List A) → before x y ≡ false → Behind y ys → Behind y (put before x ys)
  behind-put x y [] h k = (h, tt)
  behind-put x y (z ∷ ys) h k = behind-put-step x y z ys (put before x ys) (before z x) h k (behind-put x y ys h k.1)

  behind-less : (x y : A) (zs : List A) → before y x ≡ false → Behind y zs → Behind x zs
  behind-less x y [] h k = tt
  behind-less x y (z ∷ zs) h k = (o.chain z y x k.0 h, behind-less x y zs h k.1)

  put-step : (x z : A) (zs puts : List A) (b : Bool) → before z x ≡ b → InOrder (z ∷ zs) → (before x z ≡ false → Behind z puts) → InOrder puts
      → InOrder (cond b (z ∷ puts) (x ∷ z ∷ zs))
  put-step x z zs puts true e h behind p = (behind (o.one_way z x e), p)
  put-step x z zs puts false e h behind p = ((e, behind-less x z zs e h.0), h)

  put-ordered : (x : A) (zs : List A) → InOrder zs → InOrder (put before x zs)
  put-ordered x [] h = (tt, tt)
  put-ordered x (z ∷ zs) h = put-step x z zs (put before x zs) (before z x) refl h (λ e. behind-put x z zs e h.0) (put-ordered x zs h.1)

  pub ordered : (xs : List A) → InOrder (in_order before xs)
  ordered [] = tt
  ordered (x ∷ xs) = put-ordered x (in_order before xs) (ordered xs)

  all-behind : (x : A) (ys : List A) → Behind x ys → All (λ y. before y x ≡ false) ys
  all-behind x [] h = All-nil (λ y. before y x ≡ false)
  all-behind x (y ∷ ys) h = All-cons (λ z. before z x ≡ false) y ys h.0 (all-behind x ys h.1)

  -- none is before any one in front of it
  pub pairs : (xs : List A) → InOrder xs → AllPairs (λ first later. before later first ≡ false) xs
  pairs [] h = λ i j d l k. absurd (omega (arith, k))
  pairs (x ∷ xs) h = AllPairs-cons (λ first later. before later first ≡ false) x xs (all-behind x xs h.0) (pairs xs h.1)

  put-moves : (x z : A) (zs puts : List A) (b : Bool) → IsPermutation (x ∷ zs) puts → IsPermutation (x ∷ z ∷ zs) (cond b (z ∷ puts) (x ∷ z ∷ zs))
  put-moves x z zs puts true h = IsPermutation-trans (x ∷ z ∷ zs) (z ∷ x ∷ zs) (z ∷ puts) (IsPermutation-middle (x ∷ []) z zs) (IsPermutation-cons z (x ∷ zs) puts h)
  put-moves x z zs puts false h = IsPermutation-refl (x ∷ z ∷ zs)

  put-permutes : (x : A) (zs : List A) → IsPermutation (x ∷ zs) (put before x zs)
  put-permutes x [] = IsPermutation-refl (x ∷ [])
  put-permutes x (z ∷ zs) = put-moves x z zs (put before x zs) (before z x) (put-permutes x zs)

  pub permutes : (xs : List A) → IsPermutation xs (in_order before xs)
  permutes [] = IsPermutation-refl []
  permutes (x ∷ xs) =
      IsPermutation-trans (x ∷ xs) (x ∷ in_order before xs) (in_order before (x ∷ xs)) (IsPermutation-cons x xs (in_order before xs) (permutes xs)) (put-permutes x (in_order before xs))

  -- what is before an element doesn't tie with what ties with it
  before-step : (a x z : A) (b : Bool) → before z a ≡ b → ties before a x ≡ true → before z x ≡ true → ties before a z ≡ false
  before-step a x z true e t h = ap (λ b. not (before a z) && not b) e ∙ and-false (not (before a z))
  before-step a x z false e t h = absurd (differ (before z x) h (o.chain z a x e (first-false (before a x) (before x a) t)))

  before-other : (a x z : A) → ties before a x ≡ true → before z x ≡ true → ties before a z ≡ false
  before-other a x z t h = before-step a x z (before z a) refl t h

  filter-step : (a x z : A) (zs puts : List A) (b t : Bool) → before z x ≡ b → ties before a x ≡ t
      → filter (ties before a) puts ≡ filter (ties before a) (x ∷ zs)
      → filter (ties before a) (cond b (z ∷ puts) (x ∷ z ∷ zs)) ≡ filter (ties before a) (x ∷ z ∷ zs)
  filter-step a x z zs puts false t e f i = refl
  filter-step a x z zs puts true true e f i = let k = before-other a x z f e in simp (k, i, f) refl
  filter-step a x z zs puts true false e f i = simp (i, f) refl

  filter-put : (a x : A) (zs : List A) → filter (ties before a) (put before x zs) ≡ filter (ties before a) (x ∷ zs)
  filter-put a x [] = refl
  filter-put a x (z ∷ zs) = filter-step a x z zs (put before x zs) (before z x) (ties before a x) refl refl (filter-put a x zs)

  pub filter-ordered : (a : A) (xs : List A) → filter (ties before a) (in_order before xs) ≡ filter (ties before a) xs
  filter-ordered a [] = refl
  filter-ordered a (x ∷ xs) =
      filter-put a x (in_order before xs) ∙ ap (λ zs. cond (ties before a x) (x ∷ zs) zs) (filter-ordered a xs)

  -- what a stable sort gives
  pub sorted-is : (xs ys : List A) → IsSortedBy before ys → IsStableBy before xs ys → ys ≡ in_order before xs
  sorted-is xs ys s stable =
      only-one ys (in_order before xs) (from-sorted ys s) (ordered xs) (λ a. stable a ∙ sym (filter-ordered a xs))
