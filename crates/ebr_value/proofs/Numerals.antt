-- What TO_NUMBER reads is what its text writes, both ways.
use Rattle.std.proofs.Common.{ℕ, zero, suc, ◌≡◌, ◌<◌, ◌≤◌, ◌-◌, ◌+◌, ◌*◌, ◌^◌, ℤ, Bool, true, false, cond, ◌&&◌, ◌==◌, nat_le, List, [], ◌∷◌, ◌++◌, length, get_or, take, drop, refl, sym, ap, ◌∙◌, arith, add-one, Option, Some, None, inl, inr}
use Rattle.std.proofs.Math.Nat.{pow-suc, pow-le-pow_right}
use Rattle.std.proofs.Math.Seq.{drop-append_seam}
use Rattle.std.proofs.lemmas.List.{take-append-drop, length-take}
use Rattle.std.proofs.lemmas.Bool.{and_parts, and_from, leb-true, le-leb, eqb-true, false≢true, cond-true, cond-false, cases_Bool, ne_eqb}
use Rattle.std.specs.Option.{option_map}
use Rattle.std.specs.List.{list_all, prefix_len}
use Rattle.ebr_base.specs.Word.{is_digit}
use Rattle.ebr_value.specs.Numerals.{is_space, Sign, Unsigned, Plus, Minus, sign_text, signed, decimal, IsNumeral, read_digits, read_signed, read_number}

-- one digit more, of at most 18
pub more_digits : (value b i n : ℕ) → value < 10 ^ i → i < n → n ≤ 18 → 48 ≤ b → b ≤ 57 → (value * 10 + (b - 48) < 10 ^ (i + 1)) × (value * 10 + 9 < 2 ^ 64)
more_digits value b i n s l m x y =
    let step : 10 ^ (i + 1) ≡ 10 ^ i * 10 = ap (λ k. 10 ^ k) (add-one i) ∙ pow-suc 10 i in
    let some : 0 < 10 = omega arith in
    let few : i + 1 ≤ 18 = omega arith in
    let top : 10 ^ (i + 1) ≤ 10 ^ 18 = pow-le-pow_right some few in
    (omega arith, omega arith)

pub at_most_18 : (value i : ℕ) → value < 10 ^ i → i ≤ 18 → value < 1000000000000000000
at_most_18 value i s l =
    let some : 0 < 10 = omega arith in
    let top : 10 ^ i ≤ 10 ^ 18 = pow-le-pow_right some l in
    omega arith

pub digit_at : (xs : List ℕ) (i d : ℕ) → list_all is_digit xs ≡ true → i < length xs → (48 ≤ get_or xs i d) × (get_or xs i d ≤ 57)
digit_at [] i d h l = absurd (omega (arith, l))
digit_at (x ∷ xs) zero d h l = let p = and_parts (nat_le 48 x) (nat_le x 57) (and_parts (is_digit x) (list_all is_digit xs) h).0 in (leb-true _ _ p.0, leb-true _ _ p.1)
digit_at (x ∷ xs) (suc i) d h l = digit_at xs i d (and_parts (is_digit x) (list_all is_digit xs) h).1 (omega (arith, l))

-- the bytes that pass a test, and the first that doesn't

abbrev pub first_is : (ℕ → Bool) → List ℕ → Bool
first_is p [] = false
first_is p (b ∷ bs) = p b

prefix_all_by : (p : ℕ → Bool) (x : ℕ) (xs : List ℕ) (b : Bool) (n : ℕ) → p x ≡ b → list_all p (take n xs) ≡ true → list_all p (take (cond b (1 + n) 0) (x ∷ xs)) ≡ true
prefix_all_by p x xs true n e h = let s : 1 + n ≡ suc n = omega arith in rw s (and_from (p x) _ e h)
prefix_all_by p x xs false n e h = refl

pub prefix_all : (p : ℕ → Bool) (xs : List ℕ) → list_all p (take (prefix_len p xs) xs) ≡ true
prefix_all p [] = refl
prefix_all p (x ∷ xs) = prefix_all_by p x xs (p x) (prefix_len p xs) refl (prefix_all p xs)

prefix_none : (p : ℕ → Bool) (xs : List ℕ) → first_is p xs ≡ false → prefix_len p xs ≡ 0
prefix_none p [] h = refl
prefix_none p (x ∷ xs) h = cond-false (p x) _ _ h

prefix_whole : (p : ℕ → Bool) (text more : List ℕ) → list_all p text ≡ true → first_is p more ≡ false → prefix_len p (text ++ more) ≡ length text
prefix_whole p [] more a e = prefix_none p more e
prefix_whole p (x ∷ xs) more a e =
    let q = and_parts (p x) (list_all p xs) a in
    let r = prefix_whole p xs more q.1 e in
    cond-true (p x) _ _ q.0 ∙ (omega (arith, r))

-- digits and then spaces

pub record IsDigits (text : List ℕ) (n : ℕ) : Type 0 where
  pub digits : List ℕ
  pub after : List ℕ
  pub spelled : text ≡ digits ++ after
  pub spaces_after : list_all is_space after ≡ true
  pub all_digits : list_all is_digit digits ≡ true
  pub some : 1 ≤ length digits
  pub few : length digits ≤ 18
  pub value : n ≡ decimal digits

some-same : {A : Type 0} (x y : A) → Some x ≡ Some y → x ≡ y
some-same x y e = cc

take-exact : (text : List ℕ) (n : ℕ) → n ≤ length text → length (take n text) ≡ n
take-exact text n l = omega (arith, length-take n text, l)

within_by : (b : Bool) (n m : ℕ) → n ≤ m → cond b (1 + n) 0 ≤ suc m
within_by true n m l = omega arith
within_by false n m l = omega arith

prefix-within : (p : ℕ → Bool) (xs : List ℕ) → prefix_len p xs ≤ length xs
prefix-within p [] = omega arith
prefix-within p (x ∷ xs) = within_by (p x) (prefix_len p xs) (length xs) (prefix-within p xs)

pub none≢some : {A : Type 0} (x : A) → None ≡ Some x → ⊥
none≢some x e = cc

pub digits_is : (text : List ℕ) (n : ℕ) → read_digits text ≡ Some n → IsDigits text n
digits_is text n h =
    let k = prefix_len is_digit text in
    elim (cases_Bool (nat_le 1 k && nat_le k 18 && list_all is_space (drop k text))) [
      | inl t ↦
          let a = and_parts (nat_le 1 k && nat_le k 18) (list_all is_space (drop k text)) t in
          let b = and_parts (nat_le 1 k) (nat_le k 18) a.0 in
          let l = take-exact text k (prefix-within is_digit text) in
          record {
            digits = take k text;
            after = drop k text;
            spelled = sym (take-append-drop k text);
            spaces_after = a.1;
            all_digits = prefix_all is_digit text;
            some = omega (arith, l, leb-true 1 k b.0);
            few = omega (arith, l, leb-true k 18 b.1);
            value = some-same n (decimal (take k text)) (sym h ∙ cond-true _ _ _ t);
          }
      | inr f ↦ absurd (none≢some n (sym (cond-false _ _ _ f) ∙ h))
    ]

space-no_digit : (after : List ℕ) → list_all is_space after ≡ true → first_is is_digit after ≡ false
space-no_digit [] h = refl
space-no_digit (b ∷ bs) h = let e = eqb-true b 32 (and_parts (is_space b) (list_all is_space bs) h).0 in rw e refl

-- what is read where so many digits are taken
abbrev pub read_at : ℕ → List ℕ → Option ℕ
read_at k text = cond (nat_le 1 k && nat_le k 18 && list_all is_space (drop k text)) (Some (decimal (take k text))) None

take-front : (xs ys : List ℕ) → take (length xs) (xs ++ ys) ≡ xs
take-front [] ys = refl
take-front (x ∷ xs) ys = ap (λ zs. x ∷ zs) (take-front xs ys)

pub is_digits : (text : List ℕ) (n : ℕ) → IsDigits text n → read_digits text ≡ Some n
is_digits text n h =
    let e : prefix_len is_digit (h.digits ++ h.after) ≡ length h.digits = prefix_whole is_digit h.digits h.after h.all_digits (space-no_digit h.after h.spaces_after) in
    let few : (nat_le 1 (length h.digits) && nat_le (length h.digits) 18) ≡ true = and_from (nat_le 1 (length h.digits)) (nat_le (length h.digits) 18) (le-leb _ _ h.some) (le-leb _ _ h.few) in
    let blank : list_all is_space (drop (length h.digits) (h.digits ++ h.after)) ≡ true = ap (list_all is_space) (drop-append_seam h.digits h.after) ∙ h.spaces_after in
    ap read_digits h.spelled ∙ ap (λ k. read_at k (h.digits ++ h.after)) e ∙ cond-true _ _ _ (and_from (nat_le 1 (length h.digits) && nat_le (length h.digits) 18) (list_all is_space (drop (length h.digits) (h.digits ++ h.after))) few blank) ∙ ap Some (ap decimal (take-front h.digits h.after) ∙ sym h.value)

-- a sign, digits and spaces

pub record IsSigned (text : List ℕ) (n : ℤ) : Type 0 where
  pub sign : Sign
  pub rest : List ℕ
  pub number : ℕ
  pub spelled : text ≡ sign_text sign ++ rest
  pub digits : IsDigits rest number
  pub value : n ≡ signed sign number

some_of_map : (f : ℕ → ℤ) (o : Option ℕ) (n : ℤ) → option_map f o ≡ Some n → (m : ℕ) × (o ≡ Some m) × (n ≡ f m)
some_of_map f None n h = absurd (none≢some n h)
some_of_map f (Some m) n h = (m, refl, sym (some-same (f m) n h))

signed_by : (sign : Sign) (text rest : List ℕ) (n : ℤ) → text ≡ sign_text sign ++ rest → option_map (signed sign) (read_digits rest) ≡ Some n → IsSigned text n
signed_by sign text rest n e h =
    let m = some_of_map (signed sign) (read_digits rest) n h in
    record { sign = sign; rest = rest; number = m.0; spelled = e; digits = digits_is rest m.0 m.1; value = m.2 }

signed_is : (text : List ℕ) (n : ℤ) → read_signed text ≡ Some n → IsSigned text n
signed_is [] n h = absurd (none≢some n h)
signed_is (b ∷ bs) n h =
    elim (cases_Bool (b == 43)) [
      | inl p ↦ signed_by Plus (b ∷ bs) bs n (ap (λ x. x ∷ bs) (eqb-true b 43 p)) (sym (cond-true (b == 43) _ _ p) ∙ h)
      | inr np ↦ elim (cases_Bool (b == 45)) [
        | inl m ↦ signed_by Minus (b ∷ bs) bs n (ap (λ x. x ∷ bs) (eqb-true b 45 m)) (sym (cond-true (b == 45) _ _ m) ∙ sym (cond-false (b == 43) _ _ np) ∙ h)
        | inr nm ↦ signed_by Unsigned (b ∷ bs) (b ∷ bs) n refl (sym (cond-false (b == 45) _ _ nm) ∙ sym (cond-false (b == 43) _ _ np) ∙ h)
      ]
    ]

digit_bounds : (b : ℕ) → is_digit b ≡ true → 48 ≤ b
digit_bounds b h = leb-true 48 b (and_parts (nat_le 48 b) (nat_le b 57) h).0

digit-first : (digits after : List ℕ) → list_all is_digit digits ≡ true → 1 ≤ length digits → first_is is_digit (digits ++ after) ≡ true
digit-first [] after h l = absurd (omega (arith, l))
digit-first (d ∷ ds) after h l = (and_parts (is_digit d) (list_all is_digit ds) h).0

digits-first : (text : List ℕ) (n : ℕ) → IsDigits text n → first_is is_digit text ≡ true
digits-first text n h = ap (first_is is_digit) h.spelled ∙ digit-first h.digits h.after h.all_digits h.some

is_unsigned : (text : List ℕ) (m : ℕ) → IsDigits text m → first_is is_digit text ≡ true → read_signed text ≡ Some (signed Unsigned m)
is_unsigned [] m h f = absurd (false≢true f)
is_unsigned (b ∷ bs) m h f =
    let l : 48 ≤ b = digit_bounds b f in
    cond-false (b == 43) _ _ (ne_eqb b 43 (λ e. omega (arith, e))) ∙ cond-false (b == 45) _ _ (ne_eqb b 45 (λ e. omega (arith, e))) ∙ ap (option_map (signed Unsigned)) (is_digits (b ∷ bs) m h)

is_signed : (sign : Sign) (rest : List ℕ) (m : ℕ) → IsDigits rest m → read_signed (sign_text sign ++ rest) ≡ Some (signed sign m)
is_signed Unsigned rest m h = is_unsigned rest m h (digits-first rest m h)
is_signed Plus rest m h = ap (option_map (signed Plus)) (is_digits rest m h)
is_signed Minus rest m h = ap (option_map (signed Minus)) (is_digits rest m h)

-- the whole text

pub number_is : (text : List ℕ) (n : ℤ) → read_number text ≡ Some n → IsNumeral text n
number_is text n h =
    let k = prefix_len is_space text in
    let s = signed_is (drop k text) n h in
    record {
      before = take k text;
      sign = s.sign;
      digits = s.digits.digits;
      after = s.digits.after;
      spelled = sym (take-append-drop k text) ∙ ap (λ xs. take k text ++ xs) (s.spelled ∙ ap (λ xs. sign_text s.sign ++ xs) s.digits.spelled);
      spaces_before = prefix_all is_space text;
      spaces_after = s.digits.spaces_after;
      all_digits = s.digits.all_digits;
      some = s.digits.some;
      few = s.digits.few;
      value = s.value ∙ ap (signed s.sign) s.digits.value;
    }

no_space : (rest : List ℕ) → first_is is_digit rest ≡ true → first_is is_space rest ≡ false
no_space [] h = refl
no_space (b ∷ bs) h = let l : 48 ≤ b = digit_bounds b h in ne_eqb b 32 (λ e. omega (arith, e))

no_space_signed : (sign : Sign) (rest : List ℕ) → first_is is_digit rest ≡ true → first_is is_space (sign_text sign ++ rest) ≡ false
no_space_signed Unsigned rest h = no_space rest h
no_space_signed Plus rest h = refl
no_space_signed Minus rest h = refl

pub is_number : (text : List ℕ) (n : ℤ) → IsNumeral text n → read_number text ≡ Some n
is_number text n h =
    let rest = sign_text h.sign ++ (h.digits ++ h.after) in
    let d : IsDigits (h.digits ++ h.after) (decimal h.digits) = record { digits = h.digits; after = h.after; spelled = refl; spaces_after = h.spaces_after; all_digits = h.all_digits; some = h.some; few = h.few; value = refl } in
    let e : prefix_len is_space (h.before ++ rest) ≡ length h.before = prefix_whole is_space h.before rest h.spaces_before (no_space_signed h.sign (h.digits ++ h.after) (digits-first (h.digits ++ h.after) (decimal h.digits) d)) in
    ap read_number h.spelled ∙ ap (λ k. read_signed (drop k (h.before ++ rest))) e ∙ ap read_signed (drop-append_seam h.before rest) ∙ is_signed h.sign (h.digits ++ h.after) (decimal h.digits) d ∙ ap Some (sym h.value)
