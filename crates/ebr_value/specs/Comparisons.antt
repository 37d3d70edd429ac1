-- Comparisons (Oracle Database SQL Language Reference 19c, Comparison Conditions; that BOOLEAN has `=` and `<>` alone is
-- that of Oracle Database PL/SQL Language Reference 19c, and the code is own).
use Rattle.std.specs.Prelude.{Bool, true, false, not, ◌&&◌, ◌||◌, if◌then◌else◌, Option, Some, None, Ok}
use Rattle.std.specs.Ordering.{int_cmp, nat_cmp, bool_cmp, is_eq, is_lt, is_gt}
use Rattle.std.specs.Cmp.Lexicographic.{slice_cmp}
use Rattle.std.specs.declared.cmp.Ordering.{Ordering}
use Rattle.ebr_base.specs.declared.value.Value.{Value}
use Rattle.ebr_base.specs.declared.value.Value.TheVariants as value
use Rattle.ebr_value.specs.declared.comparison.Comparison.{Comparison}
use Rattle.ebr_value.specs.declared.comparison.Comparison.TheVariants.{Equal, NotEqual, Less, LessOrEqual, Greater, GreaterOrEqual}
use Rattle.ebr_value.specs.Outcomes.{Outcome, wrong_operands}
use Rattle.ebr_value.specs.Logic.{is_boolean, same_type}

-- The order of two values of one type: numbers by value, and texts by bytes, where the first byte that differs decides and
-- a text that the other goes on from is less; FALSE is before TRUE. None where one is NULL.
abbrev pub order : Value → Value → Option Ordering
order (value.Num a) (value.Num b) = Some (int_cmp a b)
order (value.Text a) (value.Text b) = Some (slice_cmp nat_cmp a b)
order (value.Bool a) (value.Bool b) = Some (bool_cmp a b)
order a b = None

abbrev pub holds : Comparison → Ordering → Bool
holds Equal o = is_eq o
holds NotEqual o = not (is_eq o)
holds Less o = is_lt o
holds LessOrEqual o = not (is_gt o)
holds Greater o = is_gt o
holds GreaterOrEqual o = not (is_lt o)

abbrev pub tests_equality : Comparison → Bool
tests_equality Equal = true
tests_equality NotEqual = true
tests_equality c = false

-- two values that are compared so: of one type, and BOOLEAN for equality alone
abbrev pub may_compare : Comparison → Value → Value → Bool
may_compare c a b = same_type a b && (tests_equality c || not (is_boolean a || is_boolean b))

-- TRUE or FALSE, and NULL where there is no order
abbrev pub truth : Comparison → Option Ordering → Value
truth c (Some o) = value.Bool (holds c o)
truth c None = value.Null

abbrev pub compare : Comparison → Value → Value → Outcome
compare c a b = if may_compare c a b then Ok (truth c (order a b)) else wrong_operands
