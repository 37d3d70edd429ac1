-- Lists on top of each other, cut out of one.
use Rattle.std.proofs.Common.{◌≡◌, ℕ, ◌+◌, ◌-◌, ◌≤◌, Bool, true, false, List, [], ◌∷◌, ◌++◌, length, take, drop, reverse, set, Option, Some, None, refl, sym, ap, subst, ◌∙◌, arith}
use Rattle.std.specs.Prelude.{nat_lt, MatchOption}
use Rattle.std.specs.Option.{option_to_list, unwrap_or}
use Rattle.std.proofs.lemmas.Bool.{ltb-true, ltb-false}
use Rattle.std.proofs.lemmas.List.{drop-set-add, take-set-le, drop-drop, length-drop, length-reverse, reverse-append, reverse-reverse, take-append-drop, drop-append-le, append-nil, length-take-le, take_all, drop_all, drop-take, take-take}
use Rattle.std.proofs.Math.Seq.{take-append_seam, drop-append_seam}
use Rattle.ebr_memory.specs.Levels.{IsCut, joined, levels, lower, lower_stacks, stacks, with_top}

module _ {T : Type 0} where
  pub levels-set : (base : ℕ) (bases : List ℕ) (items : List T) (at : ℕ) (x : T) → levels base bases (set items (base + at) x) ≡ with_top (set (levels base bases items).top at x) (levels base bases items)
  levels-set base bases items at x =
      let h : base ≤ base + at = omega arith in
      λ i. record { top = drop-set-add base items at x i; beneath = lower bases (take-set-le base items (base + at) x h i) }

  taken_top : (n : ℕ) (xs : List T) → take n (reverse xs) ≡ reverse (drop (length xs - n) xs)
  taken_top n xs = by_test (nat_lt n (length xs)) refl
    where
      by_test : (b : Bool) → nat_lt n (length xs) ≡ b → take n (reverse xs) ≡ reverse (drop (length xs - n) xs)
      by_test true h =
          let k = length xs - n in
          let below = ltb-true n (length xs) h in
          let d = length-drop k xs in
          let l : length (drop k xs) ≡ n = omega (arith, below, d) in
          let l' : length (reverse (drop k xs)) ≡ n = length-reverse (drop k xs) ∙ l in
          ap (λ ys. take n (reverse ys)) (sym (take-append-drop k xs)) ∙ ap (take n) (reverse-append (take k xs) (drop k xs))
          ∙ ap (λ m. take m (reverse (drop k xs) ++ reverse (take k xs))) (sym l') ∙ take-append_seam (reverse (drop k xs)) (reverse (take k xs))
      by_test false h =
          let above = ltb-false n (length xs) h in
          let r = length-reverse xs in
          let k : length xs - n ≡ 0 = omega (arith, above) in
          let l : length (reverse xs) ≤ n = omega (arith, above, r) in
          take_all n (reverse xs) l ∙ sym (ap (λ m. reverse (drop m xs)) k)

  dropped_top : (n : ℕ) (xs : List T) → drop n (reverse xs) ≡ reverse (take (length xs - n) xs)
  dropped_top n xs = by_test (nat_lt n (length xs)) refl
    where
      by_test : (b : Bool) → nat_lt n (length xs) ≡ b → drop n (reverse xs) ≡ reverse (take (length xs - n) xs)
      by_test true h =
          let k = length xs - n in
          let below = ltb-true n (length xs) h in
          let d = length-drop k xs in
          let l : length (drop k xs) ≡ n = omega (arith, below, d) in
          let l' : length (reverse (drop k xs)) ≡ n = length-reverse (drop k xs) ∙ l in
          ap (λ ys. drop n (reverse ys)) (sym (take-append-drop k xs)) ∙ ap (drop n) (reverse-append (take k xs) (drop k xs))
          ∙ ap (λ m. drop m (reverse (drop k xs) ++ reverse (take k xs))) (sym l') ∙ drop-append_seam (reverse (drop k xs)) (reverse (take k xs))
      by_test false h =
          let above = ltb-false n (length xs) h in
          let r = length-reverse xs in
          let k : length xs - n ≡ 0 = omega (arith, above) in
          let l : length (reverse xs) ≤ n = omega (arith, above, r) in
          drop_all n (reverse xs) l ∙ sym (ap (λ m. reverse (take m xs)) k)

  -- the topmost stack without so many elements
  pub stacks_cut : (base : ℕ) (bases : List ℕ) (items : List T) (n : ℕ) → stacks base bases (take (base + (length (drop base items) - n)) items) ≡ with_top (drop n (stacks base bases items).top) (stacks base bases items)
  stacks_cut base bases items n = λ i. record {
    top = (ap reverse (drop-take base (length (drop base items) - n) items) ∙ sym (dropped_top n (drop base items))) i;
    beneath = lower_stacks bases (take-take base (base + (length (drop base items) - n)) items (omega arith) i);
  }

  -- so many elements from its top, the topmost last
  pub stacks_taken : (base : ℕ) (items : List T) (n : ℕ) → drop (base + (length (drop base items) - n)) items ≡ reverse (take n (reverse (drop base items)))
  stacks_taken base items n =
      let k = length (drop base items) - n in
      sym (drop-drop k base items) ∙ sym (reverse-reverse (drop k (drop base items))) ∙ ap reverse (sym (taken_top n (drop base items)))

  -- the topmost stack left on the one beneath, which begins at a place
  pub stacks_joined : (base b : ℕ) (bases : List ℕ) (items : List T) → b ≤ base → base ≤ length items → stacks b bases items ≡ joined (stacks base (b ∷ bases) items)
  stacks_joined base b bases items h within =
      let l = length-take-le base items within in
      let below : b ≤ length (take base items) = omega (arith, h, l) in
      λ i. record {
        top = (ap (λ ys. reverse (drop b ys)) (sym (take-append-drop base items)) ∙ ap reverse (drop-append-le b (take base items) (drop base items) below) ∙ reverse-append (drop b (take base items)) (drop base items)) i;
        beneath = lower_stacks bases (sym (take-take b base items h) i);
      }

  -- the same where there may be none beneath: one list of places is the other with the last one taken away
  pub stacks_under : (base m n : ℕ) (bases left : List ℕ) (last : Option ℕ) (items : List T) → bases ≡ left ++ option_to_list last → MatchOption last ((m ≡ 0) × (n ≡ 0)) (λ b. n + 1 ≡ m) → length left ≡ n → IsCut base (reverse bases) items
      → stacks (unwrap_or last 0) (reverse left) items ≡ joined (stacks base (reverse bases) items)
  stacks_under base m n bases left (Some b) items e c l cut =
      let e' : reverse bases ≡ b ∷ reverse left = ap reverse e ∙ reverse-append left (b ∷ []) in
      let k = subst (λ bs. IsCut base bs items) e' cut in
      stacks_joined base b (reverse left) items k.1.0 k.0 ∙ ap (λ bs. joined (stacks base bs items)) (sym e')
  stacks_under base m n bases [] None items e c l cut =
      let k = subst (λ bs. IsCut base (reverse bs) items) e cut in
      (λ i. record { top = sym (append-nil (reverse items)) i; beneath = [] })
      ∙ ap (λ b. joined (stacks b [] items)) (sym k.1)
      ∙ ap (λ bs. joined (stacks base (reverse bs) items)) (sym e)
  stacks_under base m n bases (b ∷ left) None items e c l cut = let none = c.1 in absurd (omega (arith, l, none))
