-- Reads and writes at places that may not be there yet.
use Rattle.std.proofs.Common.{◌≡◌, ℕ, zero, suc, ◌<◌, ◌≤◌, List, [], ◌∷◌, ◌++◌, length, set, refl, ap, arith}
use Rattle.ebr_run.specs.Packages.{put, at}

module _ {A : Type 0} where
  pub put_within : (fill : A) (at : ℕ) (v : A) (xs : List A) → at < length xs → put fill at v xs ≡ set xs at v
  put_within fill at v [] h = absurd (omega (arith, h))
  put_within fill zero v (x ∷ xs) h = refl
  put_within fill (suc at) v (x ∷ xs) h = ap (λ l. x ∷ l) (put_within fill at v xs (omega (arith, h)))

  pub put_filled : (fill : A) (at : ℕ) (v : A) (xs : List A) → length xs ≤ at → put fill at v (xs ++ fill ∷ []) ≡ put fill at v xs
  put_filled fill zero v [] h = refl
  put_filled fill (suc at) v [] h = refl
  put_filled fill zero v (x ∷ xs) h = absurd (omega (arith, h))
  put_filled fill (suc at) v (x ∷ xs) h = ap (λ l. x ∷ l) (put_filled fill at v xs (omega (arith, h)))

  -- what was put there before doesn't matter
  pub put_over : (fill : A) (at : ℕ) (v w : A) (xs : List A) → at < length xs → put fill at v (set xs at w) ≡ put fill at v xs
  put_over fill at v w [] h = absurd (omega (arith, h))
  put_over fill zero v w (x ∷ xs) h = refl
  put_over fill (suc at) v w (x ∷ xs) h = ap (λ l. x ∷ l) (put_over fill at v w xs (omega (arith, h)))

  -- behind the end there is nothing
  pub nothing_at : (fill : A) (k : ℕ) (xs : List A) → length xs ≤ k → at fill k xs ≡ fill
  nothing_at fill zero [] h = refl
  nothing_at fill (suc k) [] h = refl
  nothing_at fill zero (x ∷ xs) h = absurd (omega (arith, h))
  nothing_at fill (suc k) (x ∷ xs) h = nothing_at fill k xs (omega (arith, h))
