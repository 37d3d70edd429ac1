-- What `passed` gives at each step.
use Rattle.std.proofs.Common.{ℕ, zero, suc, ◌≡◌, ◌<◌, ◌≤◌, ◌-◌, ◌+◌, List, ◌++◌, length, drop, refl, ap, ◌∙◌, sym, arith, add-one}
use Rattle.std.proofs.lemmas.List.{drop-drop, drop_at, length-append}
use Rattle.ebr_cut.specs.Reading.{passed}

pub passed-zero : (front : List ℕ → ℕ) (n : ℕ) (bytes : List ℕ) → n ≡ 0 → passed front n bytes ≡ 0
unfolding passed
passed-zero front n bytes e = rw e refl

pub passed-suc : (front : List ℕ → ℕ) (n m : ℕ) (bytes : List ℕ) → n ≡ m + 1 → passed front n bytes ≡ front bytes + passed front m (drop (front bytes) bytes)
unfolding passed
passed-suc front n m bytes e = rw (e, add-one) refl

pub passed-none : (front : List ℕ → ℕ) (n : ℕ) (bytes : List ℕ) → front bytes ≡ 0 → passed front n bytes ≡ 0
unfolding passed
passed-none front zero bytes e = refl
passed-none front (suc n) bytes e = let more = passed-none front n bytes e in rw e (omega (arith, more))

-- nothing more is passed
pub pass_end : (front : List ℕ → ℕ) (n place : ℕ) (bytes at : List ℕ) (r : ℕ) → at ≡ drop place bytes → front at ≡ 0
    → place + passed front n (drop place bytes) ≡ r → place ≡ r
pass_end front n place bytes at r d z e =
    let none : passed front n (drop place bytes) ≡ 0 = passed-none front n (drop place bytes) (ap front (sym d) ∙ z) in
    omega (arith, none, e)

-- so many steps are done
pub pass_all : (front : List ℕ → ℕ) (n i place : ℕ) (bytes : List ℕ) (r : ℕ) → n ≤ i → place + passed front (n - i) (drop place bytes) ≡ r → place ≡ r
pass_all front n i place bytes r l e =
    let none : passed front (n - i) (drop place bytes) ≡ 0 = passed-zero front (n - i) (drop place bytes) (omega (arith, l)) in
    omega (arith, none, e)

-- one step more
pub pass_more : (front : List ℕ → ℕ) (n i place len next : ℕ) (bytes at : List ℕ) (r : ℕ) → i < n → at ≡ drop place bytes → len ≡ front at → next ≡ place + len
    → place + passed front (n - i) (drop place bytes) ≡ r → next + passed front (n - (i + 1)) (drop next bytes) ≡ r
pass_more front n i place len next bytes at r l d f x e =
    let rest = drop place bytes in
    let long : len ≡ front rest = f ∙ ap front d in
    let step : passed front (n - i) rest ≡ front rest + passed front (n - (i + 1)) (drop (front rest) rest) = passed-suc front (n - i) (n - (i + 1)) rest (omega (arith, l)) in
    let after : drop next bytes ≡ drop (front rest) rest = rw (x, long, drop-drop) refl in
    let same : passed front (n - (i + 1)) (drop next bytes) ≡ passed front (n - (i + 1)) (drop (front rest) rest) = ap (λ (k : List ℕ). passed front (n - (i + 1)) k) after in
    omega (arith, step, same, e, x, long)

-- the first step over a text
pub passed-step : (front : List ℕ → ℕ) (n : ℕ) (bytes text more : List ℕ) → length bytes ≤ n → bytes ≡ text ++ more → 0 < length text → front bytes ≡ length text
    → passed front n bytes ≡ length text + passed front (n - 1) more
passed-step front n bytes text more l e some b =
    let len = ap length e ∙ length-append text more in
    let one : n ≡ n - 1 + 1 = omega (arith, l, len, some) in
    let after : drop (front bytes) bytes ≡ more = ap (λ k. drop k bytes) b ∙ ap (drop (length text)) e ∙ drop_at text more (length text) refl in
    passed-suc front n (n - 1) bytes one ∙ ap (λ k. k + passed front (n - 1) (drop (front bytes) bytes)) b ∙ ap (λ (k : List ℕ). length text + passed front (n - 1) k) after
