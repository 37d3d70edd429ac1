-- The types of expressions: operators and functions have operands of their types.
-- Oracle Database SQL Language Reference 19c, Operators, Functions, Expressions and Conditions; the order of the tests is
-- own: an operand is tested as soon as it was read, and a function at its name, before its operands.
use Rattle.std.specs.Prelude.{ℕ, suc, Bool, true, ◌&&◌, if◌then◌else◌, List, [], ◌∷◌, map, length, Option, Some, None, Result, Ok, Err}
use Rattle.ebr_base.specs.declared.code.Code.{Code}
use Rattle.ebr_exprtree.specs.declared.expression.Comparison.{Comparison}
use Rattle.ebr_exprtree.specs.declared.expression.Comparison.TheVariants as comparison
use Rattle.ebr_exprtree.specs.declared.expression.AdditiveOperator.{AdditiveOperator}
use Rattle.ebr_exprtree.specs.declared.expression.AdditiveOperator.TheVariants as additive
use Rattle.ebr_exprtree.specs.declared.expression.Expr.{Expr}
use Rattle.ebr_exprtree.specs.declared.expression.Expr.TheOpen.{Expr-F, Addend-F}
use Rattle.ebr_exprtree.specs.declared.expression.Expr.TheOpen as expr
use Rattle.ebr_exprtree.specs.declared.expression.Expr.TheFolds.{fold-Expr}
use Rattle.ebr_value.specs.declared.form.Builtin.{Builtin}
use Rattle.ebr_expr.specs.Operators.{builtin_at}
use Rattle.ebr_sqlcheck.specs.declared.value_type.ValueType.{ValueType}
use Rattle.ebr_sqlcheck.specs.declared.value_type.ValueType.TheVariants as type
use Rattle.ebr_sqlcheck.specs.Types.{Known, alike, is_plain, first_known, type_of_text, type_in}
use Rattle.ebr_sqlcheck.specs.Checked.{Checked, right, must, both, each, on, not_there, wrong_type}
use Rattle.ebr_sqlcheck.specs.Sources.{Relation}
use Rattle.ebr_sqlcheck.specs.Names.{Others, column_meant, name_type}
use Rattle.ebr_sqlcheck.specs.Functions.{takes_count, takes_any_type, taken, builtin_type}

-- the type of an expression, as far as it is known, or the code of its first fault
abbrev pub Typed : Type 0
Typed = Result Known Code

abbrev pub must_fit : Bool → Checked
must_fit fits = must wrong_type fits

-- an operand where a type is wanted
unfoldable pub wants : ValueType → Typed → Checked
wants wanted operand = on (λ t. must_fit (alike (Some wanted) t)) operand

-- a type, where there is no fault
abbrev pub gives : ValueType → Checked → Typed
gives t (Ok done) = Ok (Some t)
gives t (Err code) = Err code

abbrev pub all_want : ValueType → List Typed → Checked
all_want wanted operands = each (map (wants wanted) operands)

-- BOOLEAN has `=` and `<>` alone.
abbrev pub compares : Comparison → Known → Bool
compares comparison.Equal t = true
compares comparison.NotEqual t = true
compares c t = is_plain t

-- a comparison of an operand whose type has been read with another one
unfoldable pub compared : Comparison → Known → Typed → Checked
compared c t operand = both (must_fit (compares c t)) (on (λ u. must_fit (compares c u && alike t u)) operand)

-- `+` and `-` take numbers; `||` takes texts, and numbers as their texts.
abbrev pub adds : AdditiveOperator → Known → Bool
adds additive.Add t = alike (Some type.Number) t
adds additive.Subtract t = alike (Some type.Number) t
adds additive.Concatenate t = is_plain t

abbrev pub sum_type : AdditiveOperator → ValueType
sum_type additive.Add = type.Number
sum_type additive.Subtract = type.Number
sum_type additive.Concatenate = type.Text

-- an operand of a sum, with the operator before it
pub record Term : Type 0 where
  pub operator : AdditiveOperator
  pub operand : Typed

unfoldable pub added_to : Known → Term → Typed
added_to t term = gives (sum_type term.operator) (both (must_fit (adds term.operator t)) (on (λ u. must_fit (adds term.operator u)) term.operand))

-- the terms of a sum behind others whose type is known
unfoldable pub sum_from : Known → List Term → Typed
sum_from t [] = Ok t
sum_from t (term ∷ rest) = on (λ u. sum_from u rest) (added_to t term)

-- the operands of a function from a place on
unfoldable pub operands_from : Builtin → ℕ → List Typed → Checked
operands_from f at [] = right
operands_from f at (a ∷ rest) = both (wants (taken f at) a) (operands_from f (suc at) rest)

-- operands of any one type, behind others of which it is known so far
unfoldable pub one_type : Known → List Typed → Typed
one_type t [] = Ok t
one_type t (a ∷ rest) = on (λ u. if alike t u then one_type (first_known t u) rest else Err wrong_type) a

abbrev pub applied : Builtin → List Typed → Typed
applied f operands = if takes_any_type f then one_type None operands else gives (builtin_type f) (operands_from f 0 operands)

-- a function with its operands
unfoldable pub called : Option Builtin → List Typed → Typed
called None operands = Err not_there
called (Some f) operands = if takes_count f (length operands) then applied f operands else Err wrong_type

-- The type of each kind of expression, with those of its operands in their places.
abbrev pub type_form : List Relation → Others → Expr-F Typed Term → Typed
type_form relations others (expr.Number n) = Ok (Some type.Number)
type_form relations others (expr.Text t) = Ok (type_of_text t)
type_form relations others expr.Null = Ok None
type_form relations others (expr.Boolean b) = Ok (Some type.Boolean)
type_form relations others (expr.Name path) = Ok (name_type others path (column_meant relations path))
type_form relations others (expr.Row image name) = Ok (type_in (others.image image name))
type_form relations others (expr.Place at) = Ok None
type_form relations others (expr.Bind at) = Ok (type_in (others.bind at))
type_form relations others (expr.Call path operands) = called (builtin_at path.name path.member) operands
type_form relations others (expr.Quotient a b) = gives type.Number (both (wants type.Number a) (wants type.Number b))
type_form relations others (expr.Plus a) = gives type.Number (wants type.Number a)
type_form relations others (expr.Minus a) = gives type.Number (wants type.Number a)
type_form relations others (expr.Product a more) = gives type.Number (both (wants type.Number a) (all_want type.Number more))
type_form relations others (expr.Sum a more) = on (λ t. sum_from t more) a
type_form relations others (expr.Compare c a b) = on (λ t. gives type.Boolean (compared c t b)) a
type_form relations others (expr.IsNull a negated) = on (λ t. Ok (Some type.Boolean)) a
-- x BETWEEN a AND b is x >= a AND x <= b, and x IN (..) an OR of equalities
type_form relations others (expr.Between x a b negated) = on (λ t. gives type.Boolean (both (compared comparison.GreaterOrEqual t a) (compared comparison.LessOrEqual t b))) x
type_form relations others (expr.In x list negated) = on (λ t. gives type.Boolean (each (map (compared comparison.Equal t) list))) x
type_form relations others (expr.Like a b negated) = gives type.Boolean (both (wants type.Text a) (wants type.Text b))
type_form relations others (expr.Not a) = gives type.Boolean (wants type.Boolean a)
type_form relations others (expr.And a more) = gives type.Boolean (both (wants type.Boolean a) (all_want type.Boolean more))
type_form relations others (expr.Or a more) = gives type.Boolean (both (wants type.Boolean a) (all_want type.Boolean more))
-- what only code has
type_form relations others expr.SqlCode = Err not_there
type_form relations others (expr.Firing event) = Err not_there
type_form relations others (expr.Attribute cursor what) = Err not_there

abbrev pub type_term : Addend-F Typed Term → Term
type_term t = record { operator = t.operator; operand = t.term }

-- The type of an expression, as far as it is known, or the code of its first fault.
unfoldable pub typed : List Relation → Others → Expr → Typed
typed relations others e = fold-Expr Typed Term (type_form relations others) type_term e
