-- The books that are set aside: as many as sessions.
use Rattle.std.proofs.Common.{◌≡◌, ℕ, zero, suc, ◌-◌, ◌≤◌, List, [], ◌∷◌, length, refl, ap, arith}
use Rattle.std.specs.Prelude.{Option, slice_set}
use Rattle.ebr_ast.specs.declared.view.EditionView.{EditionView}
use Rattle.ebr_core.specs.Engine.{with_book}

pub length_set : {X : Type 0} (xs : List X) (n : ℕ) (y : X) → length (slice_set xs n y) ≡ length xs
length_set [] n y = refl
length_set (x ∷ xs) zero y = refl
length_set (x ∷ xs) (suc n) y = ap suc (length_set xs n y)

pub placed : (books : List (Option EditionView)) (n : ℕ) (book : Option EditionView) → 1 ≤ n → slice_set books (n - 1) book ≡ with_book books n book
placed books zero book low = absurd (omega (arith, low))
placed books (suc n) book low = ap (λ k. slice_set books k book) (less n)
  where
    less : (k : ℕ) → suc k - 1 ≡ k
    less k = omega arith

pub as_many : (books : List (Option EditionView)) (n : ℕ) (book : Option EditionView) → length (with_book books n book) ≡ length books
as_many books zero book = refl
as_many books (suc n) book = length_set books n book
