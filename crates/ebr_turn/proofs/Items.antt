-- Items by number, sums over views, and lists read by index.
use Rattle.std.proofs.Common.{◌≡◌, ◌≢◌, ◌⊎◌, ℕ, zero, suc, ◌+◌, ◌≤◌, eqb, List, [], ◌∷◌, ◌++◌, length, set, sym, refl, ap, ◌∙◌, subst, ⊎_elim, inl, inr, arith, Option, Some, None, Bool, true, false, eq-eqb, ne_eqb}
use Rattle.std.proofs.lemmas.List.{append-nil}
use mathlib.Core.Logic.{dite}
use mathlib.Core.Option.{some, some-injective, some-ne-none}
use native.Mathlib.Decide.{ℕ_discrete}
use lib.ListN.{get_elem?}
use Rattle.ebr_turn.specs.Chairs.{In, add_if, pick_if, items, list_of, own_list}
use Rattle.ebr_turn.specs.inside.Rule.{total}

module _ {A : Type 0} where
  pub total_set : (f : A → ℕ) (l : List A) (i : ℕ) (a b : A) → get_elem? l i ≡ some a → total f (set l i b) + f a ≡ total f l + f b
  total_set f [] i a b e = absurd (some-ne-none a (sym e))
  total_set f (x ∷ xs) zero a b e = let same : f x ≡ f a = ap f (some-injective x a e) in omega arith
  total_set f (x ∷ xs) (suc i) a b e = let more = total_set f xs i a b e in omega arith

  pub total_snoc : (f : A → ℕ) (l : List A) (b : A) → total f (l ++ b ∷ []) ≡ total f l + f b
  total_snoc f [] b = omega arith
  total_snoc f (x ∷ xs) b = let more = total_snoc f xs b in omega arith

  pub at_least : (f : A → ℕ) (l : List A) (i : ℕ) (a : A) → get_elem? l i ≡ some a → f a ≤ total f l
  at_least f [] i a e = absurd (some-ne-none a (sym e))
  at_least f (x ∷ xs) zero a e = let same : f x ≡ f a = ap f (some-injective x a e) in omega arith
  at_least f (x ∷ xs) (suc i) a e = let more = at_least f xs i a e in omega arith

  pub total_two : (f : A → ℕ) (l : List A) (i j : ℕ) (a b : A) → get_elem? l i ≡ some a → get_elem? l j ≡ some b → j ≢ i → f a + f b ≤ total f l
  total_two f [] i j a b e h n = absurd (some-ne-none a (sym e))
  total_two f (x ∷ xs) zero zero a b e h n = absurd (n refl)
  total_two f (x ∷ xs) zero (suc j) a b e h n = let same : f x ≡ f a = ap f (some-injective x a e) in let more = at_least f xs j b h in omega arith
  total_two f (x ∷ xs) (suc i) zero a b e h n = let same : f x ≡ f b = ap f (some-injective x b h) in let more = at_least f xs i a e in omega arith
  total_two f (x ∷ xs) (suc i) (suc j) a b e h n = let more = total_two f xs i j a b e h (λ z. n (ap suc z)) in omega arith

  pub here_set : (l : List A) (i : ℕ) (a b : A) → get_elem? l i ≡ some a → get_elem? (set l i b) i ≡ some b
  here_set [] i a b e = absurd (some-ne-none a (sym e))
  here_set (x ∷ xs) zero a b e = refl
  here_set (x ∷ xs) (suc i) a b e = here_set xs i a b e

  pub snoc_at : (l : List A) (a b : A) (j : ℕ) → get_elem? (l ++ a ∷ []) j ≡ some b → (get_elem? l j ≡ some b) ⊎ ((j ≡ length l) × (a ≡ b))
  snoc_at [] a b zero e = inr (refl, some-injective a b e)
  snoc_at [] a b (suc j) e = absurd (some-ne-none b (sym e))
  snoc_at (x ∷ xs) a b zero e = inl e
  snoc_at (x ∷ xs) a b (suc j) e = ⊎_elim (λ h. inl h) (λ h. inr (let n = h.0 in omega arith, h.1)) (snoc_at xs a b j e)

  pub in_left : (x : A) (l m : List A) → In x l → In x (l ++ m)
  in_left x [] m h = absurd h
  in_left x (y ∷ l) m h = ⊎_elim (λ e. inl e) (λ i. inr (in_left x l m i)) h

  pub in_right : (x : A) (l m : List A) → In x m → In x (l ++ m)
  in_right x [] m h = h
  in_right x (y ∷ l) m h = inr (in_right x l m h)

  pub in_or : (x : A) (l m : List A) → In x (l ++ m) → In x l ⊎ In x m
  in_or x [] m h = inr h
  in_or x (y ∷ l) m h = ⊎_elim (λ e. inl (inl e)) (λ i. ⊎_elim (λ a. inl (inr a)) (λ b. inr b) (in_or x l m i)) h

  add_append : (b : Bool) (x : A) (u w : List A) → add_if b x (u ++ w) ≡ add_if b x u ++ w
  add_append true x u w = refl
  add_append false x u w = refl

module _ {I : Type 0} where
  abbrev entry : ℕ → List I → ℕ × List I
  entry n xs = (n, xs)

  pub items_append : (n : ℕ) (l m : List (ℕ × I)) → items n (l ++ m) ≡ items n l ++ items n m
  items_append n [] m = refl
  items_append n (x ∷ l) m = ap (add_if (eqb x.0 n) x.1) (items_append n l m) ∙ add_append (eqb x.0 n) x.1 (items n l) (items n m)

  pub items_here : (n : ℕ) (l : List (ℕ × I)) (x : I) → items n (l ++ (n, x) ∷ []) ≡ items n l ++ x ∷ []
  items_here n l x = items_append n l ((n, x) ∷ []) ∙ ap (λ (b : Bool). items n l ++ add_if b x []) (eq-eqb n n refl)

  pub items_else : (n m : ℕ) (l : List (ℕ × I)) (x : I) → n ≢ m → items m (l ++ (n, x) ∷ []) ≡ items m l
  items_else n m l x apart = items_append m l ((n, x) ∷ []) ∙ (ap (λ (b : Bool). items m l ++ add_if b x []) (ne_eqb n m apart) ∙ append-nil (items m l))

  pub in_own : (o : Option ℕ) (mine : List I) (n : ℕ) (xs : List I) → In (n, xs) (own_list o mine) → (o ≡ Some n) × (mine ≡ xs)
  in_own None mine n xs h = absurd h
  in_own (Some m) mine n xs h = ⊎_elim (λ (e : entry m mine ≡ entry n xs). (ap (λ (z : ℕ × List I). let o : Option ℕ = Some z.0 in o) e, ap (λ (z : ℕ × List I). z.1) e)) (λ i. absurd i) h

  pub own_in : (o : Option ℕ) (mine : List I) (n : ℕ) → o ≡ Some n → In (n, mine) (own_list o mine)
  own_in o mine n e = subst (λ (z : Option ℕ). In (n, mine) (own_list z mine)) (sym e) (inl refl)

  -- a list in which each entry of n is its, and which has an entry of n unless its is empty
  pub list_of_is : (n : ℕ) (l : List (ℕ × List I)) (its : List I) → ((xs : List I) → In (n, xs) l → xs ≡ its) → (its ≡ []) ⊎ ((xs : List I) × In (n, xs) l) → list_of n l ≡ its
  list_of_is n [] its all has = ⊎_elim (λ e. sym e) (λ (h : (xs : List I) × ⊥). absurd h.1) has
  list_of_is n (x ∷ l) its all has = dite (ℕ_discrete x.0 n)
      (λ e. ap (λ (b : Bool). pick_if b x.1 (list_of n l)) (eq-eqb x.0 n e) ∙ all x.1 (inl (λ i. (e i, x.1))))
      (λ ne. ap (λ (b : Bool). pick_if b x.1 (list_of n l)) (ne_eqb x.0 n ne) ∙ list_of_is n l its (λ xs i. all xs (inr i))
      (⊎_elim (λ e. inl e) (λ (h : (xs : List I) × ((x ≡ entry n xs) ⊎ In (entry n xs) l)). ⊎_elim (λ (q : x ≡ entry n h.0). absurd (ne (ap (λ (z : ℕ × List I). z.0) q))) (λ i. inr (h.0, i)) h.1) has))
