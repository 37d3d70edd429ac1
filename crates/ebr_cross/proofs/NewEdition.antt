-- The line of an edition after another one was made.
use Rattle.std.proofs.Common.{◌≡◌, ℕ, zero, suc, ◌<◌, ◌≤◌, Bool, true, false, cond, List, [], ◌∷◌, ◌++◌, Option, Some, None, MatchOption, IfSome, find, fold, refl, ap, subst, ◌∙◌, arith, eqb-true, ne_eqb}
use Rattle.std.specs.List.{AllByRecursion}
use Rattle.std.proofs.lemmas.List.Elements.{recursion_from_All, filter-append}
use Rattle.ebr_base.specs.declared.numbers.EditionNo.{EditionNo}
use Rattle.ebr_editions.specs.declared.entry.EditionEntry.{EditionEntry}
use Rattle.ebr_editions.specs.Editions.{Editions, IsLine, HasSmallerParent, first_edition, is_numbered, edition_of, parent_entry, parent_of, living, leaf, line_up, line_of, new_edition}
use Rattle.ebr_cross.specs.Records.{with_child}
use Rattle.ebr_cross.proofs.InOrder.{fold-push}

lower : (A : Type 0) (p : Option EditionNo) (m n : ℕ) → m ≤ n → MatchOption p A (λ q. q.0 < m) → IfSome p (λ q. q.0 < n)
lower A None m n up h = tt
lower A (Some q) m n up h = omega (arith, up, h)

parent-smaller : (made : List EditionEntry) (e : EditionNo) → AllByRecursion HasSmallerParent made → IfSome (parent_of made e) (λ p. p.0 < e.0)
parent-smaller [] e all = tt
parent-smaller (x ∷ made) e all = by (is_numbered e x) refl (parent-smaller made e all.1)
  where
    by : (b : Bool) → is_numbered e x ≡ b → IfSome (parent_of made e) (λ p. p.0 < e.0) → IfSome (parent_entry (cond b (Some x) (find (is_numbered e) made))) (λ p. p.0 < e.0)
    by true t rest = let same : x.number.0 ≡ e.0 = eqb-true x.number.0 e.0 t in lower _ x.parent x.number.0 e.0 (omega (arith, same)) all.0
    by false f rest = rest

other-edition : (made : List EditionEntry) (x : EditionEntry) (e : EditionNo) → is_numbered e x ≡ false → edition_of (made ++ x ∷ []) e ≡ edition_of made e
other-edition [] x e other = ap (λ b. cond b (Some x) None) other
other-edition (y ∷ made) x e other = ap (λ found. cond (is_numbered e y) (Some y) found) (other-edition made x e other)

-- numbers fall up a line, so it never comes to one above it
line-below : (made : List EditionEntry) (x : EditionEntry) → AllByRecursion HasSmallerParent (made ++ x ∷ []) → (n : ℕ) (e : Option EditionNo) → IfSome e (λ d. d.0 < x.number.0) → line_up (made ++ x ∷ []) n e ≡ line_up made n e
line-below made x all zero e low = refl
line-below made x all (suc n) None low = refl
line-below made x all (suc n) (Some e) low =
    let other : is_numbered e x ≡ false = ne_eqb x.number.0 e.0 (λ same. omega (arith, same, low)) in
    let same : parent_of (made ++ x ∷ []) e ≡ parent_of made e = ap parent_entry (other-edition made x e other) in
    let smaller : IfSome (parent_of made e) (λ p. p.0 < e.0) = subst (λ p. IfSome p (λ q. q.0 < e.0)) same (parent-smaller (made ++ x ∷ []) e all) in
    ap (λ p. e ∷ line_up (made ++ x ∷ []) n p) same
    ∙ ap (λ es. e ∷ es) (line-below made x all n (parent_of made e) (lower _ (parent_of made e) e.0 x.number.0 (omega (arith, low)) smaller))

new-leaf : (c : Editions) (name : List ℕ) (parent : EditionNo) → leaf (with_child c name parent).made ≡ (new_edition c.made name (Some parent)).number
new-leaf c name parent =
    let x : EditionEntry = new_edition c.made name (Some parent) in
    ap (fold (λ e (y : EditionEntry). y.number) first_edition) (filter-append (λ (y : EditionEntry). y.living) c.made (x ∷ []))
    ∙ fold-push (λ e (y : EditionEntry). y.number) first_edition (living c.made) x

-- A new edition is the leaf, and in the line of no edition before it.
pub line-before-leaf : (c : Editions) (name : List ℕ) (parent e : EditionNo) → IsLine (with_child c name parent) → e.0 < (leaf (with_child c name parent).made).0 → line_of (with_child c name parent).made e ≡ line_of c.made e
line-before-leaf c name parent e line before =
    let x : EditionEntry = new_edition c.made name (Some parent) in
    line-below c.made x (recursion_from_All HasSmallerParent (c.made ++ x ∷ []) line.parents) (suc e.0) (Some e) (subst (λ (d : EditionNo). e.0 < d.0) (new-leaf c name parent) before)
