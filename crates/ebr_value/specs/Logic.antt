-- Three-valued logic (Oracle Database SQL Language Reference 19c, Logical Conditions and Null Conditions). The second
-- operand isn't computed after FALSE AND and TRUE OR, so nothing is asked of it there.
use Rattle.std.specs.Prelude.{Bool, true, false, not, Ok}
use Rattle.ebr_base.specs.declared.value.Value.{Value}
use Rattle.ebr_base.specs.declared.value.Value.TheVariants as value
use Rattle.ebr_value.specs.Outcomes.{Outcome, wrong_operands}

-- AND
abbrev pub conjunction : Value → Value → Outcome
conjunction (value.Bool false) b = Ok (value.Bool false)
conjunction (value.Bool true) (value.Bool b) = Ok (value.Bool b)
conjunction (value.Bool true) value.Null = Ok value.Null
conjunction value.Null (value.Bool false) = Ok (value.Bool false)
conjunction value.Null (value.Bool true) = Ok value.Null
conjunction value.Null value.Null = Ok value.Null
conjunction a b = wrong_operands

-- OR
abbrev pub disjunction : Value → Value → Outcome
disjunction (value.Bool true) b = Ok (value.Bool true)
disjunction (value.Bool false) (value.Bool b) = Ok (value.Bool b)
disjunction (value.Bool false) value.Null = Ok value.Null
disjunction value.Null (value.Bool true) = Ok (value.Bool true)
disjunction value.Null (value.Bool false) = Ok value.Null
disjunction value.Null value.Null = Ok value.Null
disjunction a b = wrong_operands

-- NOT
abbrev pub inverse : Value → Outcome
inverse (value.Bool b) = Ok (value.Bool (not b))
inverse value.Null = Ok value.Null
inverse a = wrong_operands

-- IS NULL
abbrev pub is_null : Value → Bool
is_null value.Null = true
is_null v = false

abbrev pub is_boolean : Value → Bool
is_boolean (value.Bool b) = true
is_boolean v = false

-- Two values of one type; NULL has every type.
abbrev pub same_type : Value → Value → Bool
same_type value.Null b = true
same_type a value.Null = true
same_type (value.Num a) (value.Num b) = true
same_type (value.Text a) (value.Text b) = true
same_type (value.Bool a) (value.Bool b) = true
same_type a b = false
