-- Which kinds of bytes exclude each other.
use Rattle.std.proofs.Common.{ℕ, zero, suc, ◌≡◌, ◌<◌, ◌≤◌, nat_le, Bool, true, false, ◌||◌, not, List, [], ◌∷◌, ◌++◌, length, get_or, take, refl, ap, sym, arith, subst}
use Rattle.std.proofs.lemmas.Bool.{and_parts, and_left, or_from, or_parts, eqb-true, leb-true, lt-leb, false≢true, false_from_ne_true, both_ways, not-true}
use Rattle.ebr_base.specs.Word.{is_digit, is_letter, is_white}
use Rattle.ebr_lexer.specs.Lexis.{first_is, is_quote, is_other}

or_elim : (x y : Bool) (Q : Type 0) → (x ≡ true → Q) → (y ≡ true → Q) → (x || y) ≡ true → Q
or_elim true y Q f g h = f refl
or_elim false y Q f g h = g h

white_all : (P : ℕ → Type 0) → P 32 → P 9 → P 13 → P 10 → (b : ℕ) → is_white b ≡ true → P b
unfolding is_white
white_all P p q r s b h =
    or_elim _ _ (P b) (or_elim _ _ (P b) (or_elim _ _ (P b) (λ e. subst P (sym (eqb-true b 32 e)) p) (λ e. subst P (sym (eqb-true b 9 e)) q)) (λ e. subst P (sym (eqb-true b 13 e)) r))
    (λ e. subst P (sym (eqb-true b 10 e)) s) h

white_no_letter : (b : ℕ) → is_white b ≡ true → is_letter b ≡ false
unfolding is_letter
white_no_letter b h = white_all (λ k. is_letter k ≡ false) refl refl refl refl b h

white_no_digit : (b : ℕ) → is_white b ≡ true → is_digit b ≡ false
white_no_digit b h = white_all (λ k. is_digit k ≡ false) refl refl refl refl b h

pub letter_not_white : (b : ℕ) → is_letter b ≡ true → is_white b ≡ false
letter_not_white b h = false_from_ne_true (is_white b) (λ w. both_ways (is_letter b) (white_no_letter b w) h)

pub digit_not_white : (b : ℕ) → is_digit b ≡ true → is_white b ≡ false
digit_not_white b h = false_from_ne_true (is_white b) (λ w. both_ways (is_digit b) (white_no_digit b w) h)

pub digit_not_letter : (b : ℕ) → is_digit b ≡ true → is_letter b ≡ false
unfolding is_letter
digit_not_letter b h =
    let p = and_parts (nat_le 48 b) (nat_le b 57) h in
    let l : b ≤ 57 = leb-true _ _ p.1 in
    let u : b < 65 = omega arith in
    let v : b < 97 = omega arith in
    or_from _ _ (and_left _ _ (lt-leb 65 b u)) (and_left _ _ (lt-leb 97 b v))

-- what a byte is not that begins neither a word nor a number nor a string
pub record Plain (b : ℕ) : Type 0 where
  pub white : is_white b ≡ false
  pub letter : is_letter b ≡ false
  pub digit : is_digit b ≡ false
  pub quote : is_quote b ≡ false

pub other_plain : (b : ℕ) → is_other b ≡ true → Plain b
other_plain b h =
    let p = or_parts _ _ (not-true _ h) in
    let q = or_parts _ _ p.0 in
    let r = or_parts _ _ q.0 in
    record { white = r.0; letter = r.1; digit = q.1; quote = p.1 }

pub plain_other : (b : ℕ) → is_white b ≡ false → is_letter b ≡ false → is_digit b ≡ false → is_quote b ≡ false → is_other b ≡ true
plain_other b w l d q = ap not (or_from _ _ (or_from _ _ (or_from _ _ w l) d) q)

pub first_take : (p : ℕ → Bool) (xs : List ℕ) (n : ℕ) → 0 < n → first_is p xs ≡ true → first_is p (take n xs) ≡ true
first_take p [] n l h = absurd (false≢true h)
first_take p (x ∷ xs) zero l h = absurd (omega (arith, l))
first_take p (x ∷ xs) (suc n) l h = h

pub first_some : (p : ℕ → Bool) (xs : List ℕ) → first_is p xs ≡ true → 0 < length xs
first_some p [] h = absurd (false≢true h)
first_some p (x ∷ xs) h = omega arith

pub first_append : (p : ℕ → Bool) (xs more : List ℕ) → first_is p xs ≡ true → p (get_or (xs ++ more) 0 0) ≡ true
first_append p [] more h = absurd (false≢true h)
first_append p (x ∷ xs) more h = h
