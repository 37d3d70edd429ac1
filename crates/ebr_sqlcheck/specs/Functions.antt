-- The operands that the built-in functions take (Oracle Database SQL Language Reference 19c, Single-Row Functions; which of
-- them there are is own). Three of `Builtin` are operators, which no name calls.
use Rattle.std.specs.Prelude.{ℕ, nat_eq, Bool, true, false, ◌||◌, if◌then◌else◌}
use Rattle.ebr_value.specs.declared.form.Builtin.{Builtin}
use Rattle.ebr_value.specs.declared.form.Builtin.TheVariants as builtin
use Rattle.ebr_sqlcheck.specs.declared.value_type.ValueType.{ValueType}
use Rattle.ebr_sqlcheck.specs.declared.value_type.ValueType.TheVariants as type

-- whether a function takes so many operands
abbrev pub takes_count : Builtin → ℕ → Bool
takes_count builtin.Mod n = nat_eq n 2
takes_count builtin.Nvl n = nat_eq n 2
takes_count builtin.Instr n = nat_eq n 2
takes_count builtin.Substr n = nat_eq n 2 || nat_eq n 3
takes_count f n = nat_eq n 1

-- whether the operands have any one type, which is that of what the function gives too
abbrev pub takes_any_type : Builtin → Bool
takes_any_type builtin.Nvl = true
takes_any_type f = false

-- the type of the operand at a place of another function, counted from 0
abbrev pub taken : Builtin → ℕ → ValueType
taken builtin.Mod at = type.Number
taken builtin.Abs at = type.Number
taken builtin.Sign at = type.Number
taken builtin.ToChar at = type.Number
taken builtin.Negate at = type.Number
taken builtin.Not at = type.Boolean
taken builtin.Substr at = if nat_eq at 0 then type.Text else type.Number
taken f at = type.Text

-- the type of what another function gives
abbrev pub builtin_type : Builtin → ValueType
builtin_type builtin.Mod = type.Number
builtin_type builtin.Abs = type.Number
builtin_type builtin.Sign = type.Number
builtin_type builtin.Length = type.Number
builtin_type builtin.Instr = type.Number
builtin_type builtin.ToNumber = type.Number
builtin_type builtin.Negate = type.Number
builtin_type builtin.Not = type.Boolean
builtin_type builtin.IsNull = type.Boolean
builtin_type f = type.Text
