-- Arithmetic (Oracle Database SQL Language Reference 19c, Arithmetic Operators and Numeric Functions; that numbers are
-- whole and have at most 18 digits, and the codes, are own).
use Rattle.std.specs.Prelude.{zero, suc, ℤ, pos, negsuc, neg_ℤ, ◌+ℤ◌, ◌-ℤ◌, ◌*ℤ◌, int_div, unsigned_abs, Bool, true, false, ◌&&◌, if◌then◌else◌, Option, Some, None, Result, Ok, Err}
use Rattle.ebr_base.specs.declared.code.Code.{Code}
use Rattle.ebr_base.specs.declared.code.Code.TheVariants.{Ora}
use Rattle.ebr_base.specs.declared.value.Value.{Value}
use Rattle.ebr_base.specs.declared.value.Value.TheVariants.{Null, Num}
use Rattle.ebr_value.specs.Outcomes.{Outcome, whole}

-- a NUMBER, or NULL, which fits every type
abbrev pub fits_number : Value → Bool
fits_number Null = true
fits_number (Num n) = true
fits_number v = false

-- The number of an operand, none where it is NULL; any other operand is wrong.
abbrev pub one_number : Value → Result (Option ℤ) Code
one_number (Num a) = Ok (Some a)
one_number a = if fits_number a then Ok None else Err (Ora 932)

-- The numbers of two operands, none where one is NULL.
abbrev pub two_numbers : Value → Value → Result (Option (ℤ × ℤ)) Code
two_numbers (Num a) (Num b) = Ok (Some (a, b))
two_numbers a b = if fits_number a && fits_number b then Ok None else Err (Ora 932)

-- what a form gives that takes numbers: NULL where one is NULL
abbrev pub of_one : (ℤ → Outcome) → Result (Option ℤ) Code → Outcome
of_one f (Ok (Some a)) = f a
of_one f (Ok None) = Ok Null
of_one f (Err code) = Err code

abbrev pub of_two : (ℤ → ℤ → Outcome) → Result (Option (ℤ × ℤ)) Code → Outcome
of_two f (Ok (Some p)) = f p.0 p.1
of_two f (Ok None) = Ok Null
of_two f (Err code) = Err code

-- a + b
abbrev pub sum : Value → Value → Outcome
sum a b = of_two (λ m n. whole (m +ℤ n)) (two_numbers a b)

-- a - b
abbrev pub difference : Value → Value → Outcome
difference a b = of_two (λ m n. whole (m -ℤ n)) (two_numbers a b)

-- a * b
abbrev pub product : Value → Value → Outcome
product a b = of_two (λ m n. whole (m *ℤ n)) (two_numbers a b)

-- TRUNC(a / b): the quotient cut toward zero, which is that of the absolute values, negated where the signs differ
abbrev pub quotient_of : ℤ → ℤ → Outcome
quotient_of m (pos zero) = Err (Ora 1476)
quotient_of m n = whole (int_div m n)

abbrev pub quotient : Value → Value → Outcome
quotient a b = of_two quotient_of (two_numbers a b)

-- MOD(a, b): a - b * TRUNC(a / b), and a where b is 0
abbrev pub remainder_of : ℤ → ℤ → Outcome
remainder_of m (pos zero) = whole m
remainder_of m n = whole (m -ℤ (n *ℤ int_div m n))

abbrev pub remainder : Value → Value → Outcome
remainder a b = of_two remainder_of (two_numbers a b)

-- -a
abbrev pub negation : Value → Outcome
negation a = of_one (λ m. whole (neg_ℤ m)) (one_number a)

-- ABS(a)
abbrev pub absolute : Value → Outcome
absolute a = of_one (λ m. whole (pos (unsigned_abs m))) (one_number a)

-- SIGN(a): -1, 0 or 1
abbrev pub sign_of : ℤ → ℤ
sign_of (pos zero) = pos 0
sign_of (pos (suc n)) = pos 1
sign_of (negsuc n) = neg_ℤ (pos 1)

abbrev pub sign : Value → Outcome
sign a = of_one (λ m. Ok (Num (sign_of m))) (one_number a)
