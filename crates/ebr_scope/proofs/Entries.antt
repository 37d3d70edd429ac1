-- The entries of a stack of declared names: those that are left when it is cut, and those that are found.
use Rattle.std.proofs.Common.{◌≡◌, ℕ, ◌-◌, Bool, true, false, ◌&&◌, if◌then◌else◌, List, [], ◌∷◌, ◌++◌, map, drop, take, length, reverse, Option, Some, refl, sym, ap, ◌∙◌}
use Rattle.std.specs.Prelude.{find}
use Rattle.std.specs.Option.{option_map}
use Rattle.std.proofs.lemmas.List.{take-append-drop, length-drop, length-reverse, length-map, reverse-append, drop-map}
use Rattle.std.proofs.Math.Seq.{drop-append_seam}

module _ {X Y : Type 0} (f : X → Y) where
  reversed : (xs : List X) (d : ℕ) → reverse xs ≡ reverse (drop d xs) ++ reverse (take d xs)
  reversed xs d = ap reverse (sym (take-append-drop d xs)) ∙ reverse-append (take d xs) (drop d xs)

  at_seam : (xs : List X) (d : ℕ) → length (reverse (drop d xs)) ≡ length (map f (reverse xs)) - d
  at_seam xs d = length-reverse (drop d xs) ∙ length-drop d xs ∙ ap (λ n. n - d) (sym (length-map (reverse xs) f ∙ length-reverse xs))

  -- what is left of a stack that is cut at a depth
  pub kept : (xs : List X) (d : ℕ) → drop (length (map f (reverse xs)) - d) (map f (reverse xs)) ≡ map f (reverse (take d xs))
  kept xs d =
      drop-map f (length (map f (reverse xs)) - d) (reverse xs)
      ∙ ap (λ n. map f (drop n (reverse xs))) (sym (at_seam xs d))
      ∙ ap (λ l. map f (drop (length (reverse (drop d xs))) l)) (reversed xs d)
      ∙ ap (map f) (drop-append_seam (reverse (drop d xs)) (reverse (take d xs)))

  pub still : (xs : List X) (d : ℕ) {ys : List Y} {zs : List X} → ys ≡ map f (reverse xs) → zs ≡ take d xs → drop (length ys - d) ys ≡ map f (reverse zs)
  still xs d here cut = ap (λ l. drop (length l - d) l) here ∙ kept xs d ∙ ap (λ l. map f (reverse l)) (sym cut)

  first : (b : Bool) (x : X) (l : Option Y) (r : Option X) → l ≡ option_map f r → (if b then Some (f x) else l) ≡ option_map f (if b then Some x else r)
  first true x l r h = refl
  first false x l r h = h

  -- a search among what elements are taken to
  pub found : (p : Y → Bool) (xs : List X) → find p (map f xs) ≡ option_map f (find (λ x. p (f x)) xs)
  found p [] = refl
  found p (x ∷ xs) = first (p (f x)) x _ _ (found p xs)

-- a search by a test that says the same
pub by_same : {X : Type 0} (p q : X → Bool) → ((x : X) → p x ≡ q x) → (xs : List X) → find p xs ≡ find q xs
by_same p q same [] = refl
by_same p q same (x ∷ xs) = ap (λ b. if b then Some x else find p xs) (same x) ∙ ap (λ r. if q x then Some x else r) (by_same p q same xs)

pub other_order : (a b : Bool) → (a && b) ≡ (b && a)
other_order true true = refl
other_order true false = refl
other_order false true = refl
other_order false false = refl
