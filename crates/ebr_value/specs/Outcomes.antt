-- What an operator or a function gives.
use Rattle.std.specs.Prelude.{ℕ, ℤ, if◌then◌else◌, nat_le, unsigned_abs, Result, Ok, Err}
use Rattle.ebr_base.specs.declared.code.Code.{Code}
use Rattle.ebr_base.specs.declared.code.Code.TheVariants.{Ora}
use Rattle.ebr_base.specs.declared.value.Value.{Value}
use Rattle.ebr_base.specs.declared.value.Value.TheVariants.{Num}

-- a value, or the code that is raised
abbrev pub Outcome : Type 0
Outcome = Result Value Code

-- An operand isn't of the type that the form takes, or there are too many or too few.
abbrev pub wrong_operands : Outcome
wrong_operands = Err (Ora 932)

-- The greatest absolute value of a number (own: Oracle Database has 38 digits and fractions).
abbrev pub greatest : ℕ
greatest = 999999999999999999

-- A whole number, which has at most 18 digits.
abbrev pub whole : ℤ → Outcome
whole n = if nat_le (unsigned_abs n) greatest then Ok (Num n) else Err (Ora 1426)
