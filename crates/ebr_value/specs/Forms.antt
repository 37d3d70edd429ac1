-- What each operator and each built-in function gives, and what a column or a variable takes.
use Rattle.std.specs.Prelude.{◌≡◌, ℕ, ℤ, pos, ◌^◌, Bool, true, false, if◌then◌else◌, nat_lt, nat_le, unsigned_abs, List, [], ◌∷◌, length, Option, Some, None, Result, Ok, Err}
use Rattle.ebr_base.specs.declared.code.Code.{Code}
use Rattle.ebr_base.specs.declared.code.Code.TheVariants.{Ora}
use Rattle.ebr_base.specs.declared.code.Stop.{Stop}
use Rattle.ebr_base.specs.declared.code.Stop.TheVariants.{Raised, NoMemory}
use Rattle.ebr_base.specs.declared.value.Value.{Value}
use Rattle.ebr_base.specs.declared.value.Value.TheVariants as value
use Rattle.ebr_base.specs.declared.value.ColType.{ColType}
use Rattle.ebr_base.specs.declared.value.ColType.TheVariants as column
use Rattle.ebr_value.specs.declared.form.BinOp.{BinOp}
use Rattle.ebr_value.specs.declared.form.BinOp.TheVariants as op
use Rattle.ebr_value.specs.declared.form.Builtin.{Builtin}
use Rattle.ebr_value.specs.declared.form.Builtin.TheVariants as builtin
use Rattle.ebr_value.specs.declared.form.Place.{Place}
use Rattle.ebr_value.specs.declared.form.Place.TheVariants as place
use Rattle.ebr_value.specs.declared.comparison.Comparison.TheVariants as comparison
use Rattle.ebr_value.specs.Outcomes.{Outcome, wrong_operands}
use Rattle.ebr_value.specs.Numbers.{sum, difference, product, quotient, remainder, negation, absolute, sign}
use Rattle.ebr_value.specs.Logic.{conjunction, disjunction, inverse, is_null, same_type}
use Rattle.ebr_value.specs.Comparisons.{compare}
use Rattle.ebr_value.specs.Patterns.{IsLike, likeness}
use Rattle.ebr_value.specs.Places.{IsFirstPlace}
use Rattle.ebr_value.specs.Texts.{concatenation, upper_case, lower_case, length_of, to_char, substr, substr_rest, instr}
use Rattle.ebr_value.specs.Numerals.{IsNumeral, to_number, no_number}

abbrev pub binary : BinOp → Value → Value → Place → Outcome
binary op.Add a b at = sum a b
binary op.Subtract a b at = difference a b
binary op.Multiply a b at = product a b
binary op.Quotient a b at = quotient a b
binary op.Concatenate a b at = concatenation at a b
binary op.Equal a b at = compare comparison.Equal a b
binary op.NotEqual a b at = compare comparison.NotEqual a b
binary op.Less a b at = compare comparison.Less a b
binary op.LessOrEqual a b at = compare comparison.LessOrEqual a b
binary op.Greater a b at = compare comparison.Greater a b
binary op.GreaterOrEqual a b at = compare comparison.GreaterOrEqual a b
binary op.And a b at = conjunction a b
binary op.Or a b at = disjunction a b
binary op.Like a b at = likeness a b

-- NVL(x, y) (Oracle Database SQL Language Reference 19c, NVL)
abbrev pub first_known : Value → Value → Value
first_known value.Null y = y
first_known x y = x

abbrev pub nvl : Value → Value → Outcome
nvl x y = if same_type x y then Ok (first_known x y) else wrong_operands

-- functions of one operand
abbrev pub of_one : Builtin → Value → Place → Outcome
of_one builtin.Negate a at = negation a
of_one builtin.Not a at = inverse a
of_one builtin.IsNull a at = Ok (value.Bool (is_null a))
of_one builtin.Abs a at = absolute a
of_one builtin.Sign a at = sign a
of_one builtin.Upper a at = upper_case a
of_one builtin.Lower a at = lower_case a
of_one builtin.Length a at = length_of a
of_one builtin.ToChar a at = to_char a
of_one builtin.ToNumber a at = to_number at a
of_one f a at = wrong_operands

-- functions of two operands
abbrev pub of_two : Builtin → Value → Value → Outcome
of_two builtin.Mod a b = remainder a b
of_two builtin.Nvl a b = nvl a b
of_two builtin.Substr a b = substr_rest a b
of_two builtin.Instr a b = instr a b
of_two f a b = wrong_operands

-- the function of three operands
abbrev pub of_three : Builtin → Value → Value → Value → Outcome
of_three builtin.Substr a b c = substr a b c
of_three f a b c = wrong_operands

abbrev pub function : Builtin → List Value → Place → Outcome
function f (a ∷ []) at = of_one f a at
function f (a ∷ b ∷ []) at = of_two f a b
function f (a ∷ b ∷ c ∷ []) at = of_three f a b c
function f args at = wrong_operands

-- Where the answer is want of memory, this holds.
abbrev pub OnWant : Result Value Stop → Type 0 → Type 0
OnWant (Err NoMemory) P = P
OnWant result P = Unit {0}

-- the operators and functions that make a text or a copy, and so take memory
abbrev pub joins : BinOp → Bool
joins op.Concatenate = true
joins o = false

abbrev pub makes_text : Builtin → Bool
makes_text builtin.Nvl = true
makes_text builtin.Upper = true
makes_text builtin.Lower = true
makes_text builtin.Substr = true
makes_text builtin.ToChar = true
makes_text f = false

-- The answer says whether the text is like the pattern.
abbrev pub TellsLike : Result Value Stop → List ℕ → List ℕ → Type 0
TellsLike (Ok (value.Bool true)) text pattern = IsLike text pattern
TellsLike (Ok (value.Bool false)) text pattern = IsLike text pattern → ⊥
TellsLike result text pattern = ⊥

-- The answer is the number that the text writes, or the code of one that writes none.
abbrev pub TellsNumber : Result Value Stop → List ℕ → Place → Type 0
TellsNumber (Ok (value.Num n)) text at = IsNumeral text n
TellsNumber (Err (Raised code)) text at = (code ≡ no_number at) × ((n : ℤ) → IsNumeral text n → ⊥)
TellsNumber result text at = ⊥

-- The answer is the first place where y stands in the text, and 0 where it stands nowhere.
abbrev pub TellsPlace : Result Value Stop → List ℕ → List ℕ → Type 0
TellsPlace (Ok (value.Num (pos n))) text y = IsFirstPlace text y n
TellsPlace result text y = ⊥

-- the codes of a number with too many digits and of a text with too many bytes, assigned to a column or to a variable
abbrev pub many_digits : Place → Code
many_digits place.Sql = Ora 1438
many_digits place.Code = Ora 6502

abbrev pub many_bytes : Place → Code
many_bytes place.Sql = Ora 12899
many_bytes place.Code = Ora 6502

-- What the assignment of a value to a column (in SQL) or a variable (in code) of the type raises, if anything. A number of
-- at most p digits is below 10 to the power p.
abbrev pub fits : Value → ColType → Place → Option Code
fits value.Null ty at = None
fits (value.Num n) (column.Num p) at = if nat_lt (unsigned_abs n) (10 ^ p) then None else Some (many_digits at)
fits (value.Text t) (column.Text c) at = if nat_le (length t) c then None else Some (many_bytes at)
fits v ty at = Some (Ora 932)
