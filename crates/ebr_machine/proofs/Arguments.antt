-- Arguments that are moved one by one from the operands to where there is no variable yet.
use Rattle.std.proofs.Common.{◌≡◌, ℕ, zero, suc, ◌-◌, ◌<◌, ◌≤◌, List, [], ◌∷◌, ◌++◌, length, take, drop, reverse, refl, sym, ap, ◌∙◌, arith}
use Rattle.std.proofs.lemmas.List.{append_assoc, length-reverse, reverse-append}
use Rattle.ebr_base.specs.declared.value.Value.{Value}
use Rattle.ebr_base.specs.declared.value.Value.TheVariants as value
use Rattle.ebr_run.specs.Packages.{put}

-- the variables when so many operands more are moved, the last one first
abbrev pub moved : ℕ → List Value → List Value → List Value
moved zero vs xs = xs
moved (suc n) [] xs = xs
moved (suc n) (v ∷ vs) xs = moved n vs (put value.Null n v xs)

pub moved_one : (n : ℕ) (v : Value) (vs xs : List Value) → 0 < n → moved (n - 1) vs (put value.Null (n - 1) v xs) ≡ moved n (v ∷ vs) xs
moved_one zero v vs xs h = absurd (omega (arith, h))
moved_one (suc n) v vs xs h =
    let e : suc n - 1 ≡ n = omega arith in
    ap (λ k. moved k vs (put value.Null k v xs)) e

pub dropped_one : (n : ℕ) (v : Value) (vs : List Value) → 0 < n → drop (n - 1) vs ≡ drop n (v ∷ vs)
dropped_one zero v vs h = absurd (omega (arith, h))
dropped_one (suc n) v vs h =
    let e : suc n - 1 ≡ n = omega arith in
    ap (λ k. drop k vs) e

-- so many variables without a value, and then these
abbrev unset : ℕ → List Value → List Value
unset zero xs = xs
unset (suc n) xs = value.Null ∷ unset n xs

put_first : (n : ℕ) (v : Value) → put value.Null n v [] ≡ unset n (v ∷ [])
put_first zero v = refl
put_first (suc n) v = ap (λ xs. value.Null ∷ xs) (put_first n v)

put_last : (n : ℕ) (v : Value) (xs : List Value) → put value.Null n v (unset (suc n) xs) ≡ unset n (v ∷ xs)
put_last zero v xs = refl
put_last (suc n) v xs = ap (λ xs. value.Null ∷ xs) (put_last n v xs)

last_first : (v : Value) (vs xs : List Value) → reverse vs ++ (v ∷ xs) ≡ reverse (v ∷ vs) ++ xs
last_first v vs xs = sym (append_assoc (reverse vs) (v ∷ []) xs) ∙ ap (λ l. l ++ xs) (sym (reverse-append (v ∷ []) vs))

moved_before : (n : ℕ) (vs xs : List Value) → n ≤ length vs → moved n vs (unset n xs) ≡ reverse (take n vs) ++ xs
moved_before zero vs xs h = refl
moved_before (suc n) [] xs h = absurd (omega (arith, h))
moved_before (suc n) (v ∷ vs) xs h =
    ap (moved n vs) (put_last n v xs) ∙ moved_before n vs (v ∷ xs) (omega (arith, h)) ∙ last_first v (take n vs) xs

pub moved_all : (n : ℕ) (vs : List Value) → n ≤ length vs → moved n vs [] ≡ reverse (take n vs)
moved_all zero vs h = refl
moved_all (suc n) [] h = absurd (omega (arith, h))
moved_all (suc n) (v ∷ vs) h =
    ap (moved n vs) (put_first n v) ∙ moved_before n vs (v ∷ []) (omega (arith, h)) ∙ sym (reverse-append (v ∷ []) (take n vs))

-- ---- no more than there are

taken : (n : ℕ) (vs : List Value) → take (length (take n vs)) vs ≡ take n vs
taken zero vs = refl
taken (suc n) [] = refl
taken (suc n) (v ∷ vs) = ap (λ l. v ∷ l) (taken n vs)

dropped : (n : ℕ) (vs : List Value) → drop (length (take n vs)) vs ≡ drop n vs
dropped zero vs = refl
dropped (suc n) [] = refl
dropped (suc n) (v ∷ vs) = dropped n vs

within : (n : ℕ) (vs : List Value) → length (take n vs) ≤ length vs
within zero vs = omega arith
within (suc n) [] = omega arith
within (suc n) (v ∷ vs) = let h = within n vs in omega (arith, h)

pub taken_last : (n k : ℕ) (vs : List Value) → k ≡ length (reverse (take n vs)) → take k vs ≡ take n vs
taken_last n k vs e = ap (λ k. take k vs) (e ∙ length-reverse (take n vs)) ∙ taken n vs

pub dropped_last : (n k : ℕ) (vs : List Value) → k ≡ length (reverse (take n vs)) → drop k vs ≡ drop n vs
dropped_last n k vs e = ap (λ k. drop k vs) (e ∙ length-reverse (take n vs)) ∙ dropped n vs

pub within_last : (n k : ℕ) (vs : List Value) → k ≡ length (reverse (take n vs)) → k ≤ length vs
within_last n k vs e = let h = within n vs in let l = length-reverse (take n vs) in omega (arith, h, e, l)
