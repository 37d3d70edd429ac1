-- Runs of bytes that pass a test, and the numbers that digits spell.
use Rattle.std.proofs.Common.{ℕ, zero, suc, ◌≡◌, ◌<◌, ◌≤◌, ◌-◌, ◌+◌, ◌*◌, ◌^◌, Bool, true, false, cond, List, [], ◌∷◌, ◌++◌, length, get_or, take, drop, refl, ap, ◌∙◌, arith, add-one, Ok}
use Rattle.std.proofs.Math.Nat.{pow-suc, pow-le-pow_right}
use Rattle.std.proofs.lemmas.Bool.{and_parts, and_from, leb-true, le-leb, false≢true, cond-true, cond-false}
use Rattle.std.specs.List.{list_all, prefix_len}
use Rattle.ebr_base.specs.Word.{is_digit, is_letter, is_word_byte}
use Rattle.ebr_lexer.specs.declared.token.TokenKind.TheVariants as kind
use Rattle.ebr_lexer.specs.Lexis.{first_is}
use Rattle.ebr_lexer.specs.Reading.{content_front, lexeme}

pub first_is_at : (p : ℕ → Bool) (xs : List ℕ) (d : ℕ) → 0 < length xs → p (get_or xs 0 d) ≡ true → first_is p xs ≡ true
first_is_at p [] d l h = absurd (omega (arith, l))
first_is_at p (x ∷ xs) d l h = h

-- one digit more, of at most 18
pub more_digits : (value b i n : ℕ) → value < 10 ^ i → i < n → n ≤ 18 → 48 ≤ b → b ≤ 57 → (value * 10 + (b - 48) < 10 ^ (i + 1)) × (value * 10 + 9 < 2 ^ 64)
more_digits value b i n s l m x y =
    let step : 10 ^ (i + 1) ≡ 10 ^ i * 10 = ap (λ k. 10 ^ k) (add-one i) ∙ pow-suc 10 i in
    let some : 0 < 10 = omega arith in
    let few : i + 1 ≤ 18 = omega arith in
    let top : 10 ^ (i + 1) ≤ 10 ^ 18 = pow-le-pow_right some few in
    (omega arith, omega arith)

pub digit_at : (xs : List ℕ) (i d : ℕ) → list_all is_digit xs ≡ true → i < length xs → (48 ≤ get_or xs i d) × (get_or xs i d ≤ 57)
digit_at [] i d h l = absurd (omega (arith, l))
digit_at (x ∷ xs) zero d h l = let p = and_parts _ _ (and_parts _ _ h).0 in (leb-true _ _ p.0, leb-true _ _ p.1)
digit_at (x ∷ xs) (suc i) d h l = digit_at xs i d (and_parts _ _ h).1 (omega (arith, l))

prefix_all_by : (p : ℕ → Bool) (x : ℕ) (xs : List ℕ) (b : Bool) (n : ℕ) → p x ≡ b → list_all p (take n xs) ≡ true → list_all p (take (cond b (1 + n) 0) (x ∷ xs)) ≡ true
prefix_all_by p x xs true n e h = let s : 1 + n ≡ suc n = omega arith in rw s (and_from (p x) _ e h)
prefix_all_by p x xs false n e h = refl

pub prefix_all : (p : ℕ → Bool) (xs : List ℕ) → list_all p (take (prefix_len p xs) xs) ≡ true
prefix_all p [] = refl
prefix_all p (x ∷ xs) = prefix_all_by p x xs (p x) (prefix_len p xs) refl (prefix_all p xs)

prefix_ends_by : (p : ℕ → Bool) (x : ℕ) (xs : List ℕ) (b : Bool) (n : ℕ) → p x ≡ b → first_is p (drop n xs) ≡ false → first_is p (drop (cond b (1 + n) 0) (x ∷ xs)) ≡ false
prefix_ends_by p x xs true n e h = let s : 1 + n ≡ suc n = omega arith in rw s h
prefix_ends_by p x xs false n e h = e

pub prefix_ends : (p : ℕ → Bool) (xs : List ℕ) → first_is p (drop (prefix_len p xs) xs) ≡ false
prefix_ends p [] = refl
prefix_ends p (x ∷ xs) = prefix_ends_by p x xs (p x) (prefix_len p xs) refl (prefix_ends p xs)

pub prefix_none : (p : ℕ → Bool) (xs : List ℕ) → first_is p xs ≡ false → prefix_len p xs ≡ 0
prefix_none p [] h = refl
prefix_none p (x ∷ xs) h = cond-false (p x) _ _ h

pub prefix_whole : (p : ℕ → Bool) (text more : List ℕ) → list_all p text ≡ true → first_is p more ≡ false → prefix_len p (text ++ more) ≡ length text
prefix_whole p [] more a e = prefix_none p more e
prefix_whole p (x ∷ xs) more a e =
    let q = and_parts _ _ a in
    let r = prefix_whole p xs more q.1 e in
    cond-true (p x) _ _ q.0 ∙ (omega (arith, r))

pub prefix_some : (p : ℕ → Bool) (xs : List ℕ) → first_is p xs ≡ true → 0 < prefix_len p xs
prefix_some p [] h = absurd (false≢true h)
prefix_some p (x ∷ xs) h = let s = cond-true (p x) (1 + prefix_len p xs) 0 h in omega (arith, s)

letter-word : (b : ℕ) → is_letter b ≡ true → is_word_byte b ≡ true
unfolding is_word_byte
letter-word b h = rw h refl

pub letter_first : (xs : List ℕ) → first_is is_letter xs ≡ true → first_is is_word_byte xs ≡ true
letter_first [] h = h
letter_first (x ∷ xs) h = letter-word x h

pub word_some : (xs : List ℕ) → first_is is_letter xs ≡ true → 0 < prefix_len is_word_byte xs
word_some xs h = prefix_some is_word_byte xs (letter_first xs h)

-- a content that is not too long
pub content_fits : (content copy : List ℕ) (n len : ℕ) → len ≡ length content → len ≤ 32767 → copy ≡ content → content_front content n ≡ Ok (lexeme (kind.Text copy) n)
content_fits content copy n len e l c =
    let few : length content ≤ 32767 = omega (arith, e, l) in
    rw c (cond-true _ _ _ (le-leb _ _ few))
