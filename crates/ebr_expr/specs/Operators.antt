-- The operators and functions that expressions name.
use Rattle.std.specs.Prelude.{ℕ, false, true, if◌then◌else◌, codes, List, Option, Some, None, Ok}
use Rattle.std.specs.Str.{bytes_eq}
use Rattle.ebr_base.specs.declared.value.Value.{Value}
use Rattle.ebr_base.specs.declared.value.Value.TheVariants as value
use Rattle.ebr_exprtree.specs.declared.expression.Comparison.{Comparison}
use Rattle.ebr_exprtree.specs.declared.expression.Comparison.TheVariants as comparison
use Rattle.ebr_exprtree.specs.declared.expression.AdditiveOperator.{AdditiveOperator}
use Rattle.ebr_exprtree.specs.declared.expression.AdditiveOperator.TheVariants as additive
use Rattle.ebr_value.specs.declared.form.BinOp.{BinOp}
use Rattle.ebr_value.specs.declared.form.BinOp.TheVariants as op
use Rattle.ebr_value.specs.declared.form.Builtin.{Builtin}
use Rattle.ebr_value.specs.declared.form.Builtin.TheVariants as builtin
use Rattle.ebr_value.specs.Outcomes.{Outcome, wrong_operands}
use Rattle.ebr_value.specs.Numbers.{fits_number}

abbrev pub compared_by : Comparison → BinOp
compared_by comparison.Equal = op.Equal
compared_by comparison.NotEqual = op.NotEqual
compared_by comparison.Less = op.Less
compared_by comparison.LessOrEqual = op.LessOrEqual
compared_by comparison.Greater = op.Greater
compared_by comparison.GreaterOrEqual = op.GreaterOrEqual

abbrev pub added_by : AdditiveOperator → BinOp
added_by additive.Add = op.Add
added_by additive.Subtract = op.Subtract
added_by additive.Concatenate = op.Concatenate

-- The built-in function of a name (Oracle Database SQL Language Reference 19c, Single-Row Functions; which of them there
-- are is own).
unfoldable pub builtin_named : List ℕ → Option Builtin
builtin_named name =
    if bytes_eq name (codes "MOD") then Some builtin.Mod
    else if bytes_eq name (codes "ABS") then Some builtin.Abs
    else if bytes_eq name (codes "SIGN") then Some builtin.Sign
    else if bytes_eq name (codes "NVL") then Some builtin.Nvl
    else if bytes_eq name (codes "UPPER") then Some builtin.Upper
    else if bytes_eq name (codes "LOWER") then Some builtin.Lower
    else if bytes_eq name (codes "LENGTH") then Some builtin.Length
    else if bytes_eq name (codes "SUBSTR") then Some builtin.Substr
    else if bytes_eq name (codes "INSTR") then Some builtin.Instr
    else if bytes_eq name (codes "TO_CHAR") then Some builtin.ToChar
    else if bytes_eq name (codes "TO_NUMBER") then Some builtin.ToNumber
    else None

-- a function of a package isn't built in
abbrev pub builtin_at : List ℕ → Option (List ℕ) → Option Builtin
builtin_at name None = builtin_named name
builtin_at name (Some member) = None

-- +a: a number, or NULL, as it is
abbrev pub unsigned : Value → Outcome
unsigned a = if fits_number a then Ok a else wrong_operands

-- What an operator gives whose left operand decides alone: FALSE AND, TRUE OR.
abbrev pub decided : BinOp → Value → Option Value
decided op.And (value.Bool false) = Some (value.Bool false)
decided op.Or (value.Bool true) = Some (value.Bool true)
decided o a = None
