-- What an expression gives in a statement of SQL (Oracle Database SQL Language Reference 19c, Expressions and Conditions).
--
-- It is what the kind of the expression makes of what its operands give. Operands are computed from left to right, and the
-- first code that one raises is that of the whole. An operand that isn't looked at isn't computed.
use Rattle.std.specs.Prelude.{pos, Bool, false, true, List, [], ◌∷◌, ◌++◌, map, slice_get, Option, Some, None, Result, Ok, Err}
use Rattle.std.specs.List.{fold}
use Rattle.ebr_base.specs.declared.code.Code.{Code}
use Rattle.ebr_base.specs.declared.code.Code.TheVariants.{Ora}
use Rattle.ebr_base.specs.declared.value.Value.{Value}
use Rattle.ebr_base.specs.declared.value.Value.TheVariants as value
use Rattle.ebr_base.specs.Values.{text_value}
use Rattle.ebr_exprtree.specs.declared.expression.Expr.{Expr}
use Rattle.ebr_exprtree.specs.declared.expression.Expr.TheOpen.{Expr-F, Addend-F}
use Rattle.ebr_exprtree.specs.declared.expression.Expr.TheOpen as expr
use Rattle.ebr_exprtree.specs.declared.expression.Expr.TheFolds.{fold-Expr}
use Rattle.ebr_value.specs.declared.form.BinOp.{BinOp}
use Rattle.ebr_value.specs.declared.form.BinOp.TheVariants as op
use Rattle.ebr_value.specs.declared.form.Builtin.{Builtin}
use Rattle.ebr_value.specs.declared.form.Builtin.TheVariants as builtin
use Rattle.ebr_value.specs.declared.form.Place.TheVariants.{Sql}
use Rattle.ebr_value.specs.Outcomes.{Outcome, whole}
use Rattle.ebr_value.specs.Forms.{binary, function}
use Rattle.ebr_expr.specs.Operators.{compared_by, added_by, builtin_at, unsigned, decided}

-- a name that nothing has here
abbrev pub unknown : Outcome
unknown = Err (Ora 904)

-- the value at a place of a row or of binds, counted from 0
abbrev pub known : Option Value → Outcome
known (Some v) = Ok v
known None = unknown

-- f of what an operand gives
abbrev pub on : (Value → Outcome) → Outcome → Outcome
on f (Ok a) = f a
on f (Err code) = Err code

-- a function of one operand
unfoldable pub of_one : Builtin → Outcome → Outcome
of_one f a = on (λ x. function f (x ∷ []) Sql) a

abbrev pub unless_decided : Option Value → Outcome → Outcome
unless_decided (Some v) a = Ok v
unless_decided None a = a

-- An operator of two operands; the right one isn't computed where the left one decides.
unfoldable pub of_two : BinOp → Outcome → Outcome → Outcome
of_two o (Ok a) b = unless_decided (decided o a) (on (λ y. binary o a y Sql) b)
of_two o (Err code) b = Err code

-- an operand of a sum, with the operator before it
pub record Term : Type 0 where
  pub operator : BinOp
  pub operand : Outcome

abbrev pub added : Outcome → Term → Outcome
added a t = of_two t.operator a t.operand

-- NOT of what is negated
unfoldable pub not_if : Bool → Outcome → Outcome
not_if true a = of_one builtin.Not a
not_if false a = a

-- x BETWEEN a AND b: x >= a AND x <= b
abbrev pub between : Outcome → Outcome → Value → Outcome
between a b x = of_two op.And (of_two op.GreaterOrEqual (Ok x) a) (of_two op.LessOrEqual (Ok x) b)

-- x IN (..): the OR of the equalities, in order
unfoldable pub among : List Outcome → Value → Outcome
among list x = fold (of_two op.Or) (Ok (value.Bool false)) (map (of_two op.Equal (Ok x)) list)

-- the values of operands, behind those of the ones before them
unfoldable pub values : List Value → List Outcome → Result (List Value) Code
values found [] = Ok found
values found (Ok a ∷ rest) = values (found ++ a ∷ []) rest
values found (Err code ∷ rest) = Err code

-- a function with its operands
unfoldable pub of_values : Builtin → Result (List Value) Code → Outcome
of_values f (Ok args) = function f args Sql
of_values f (Err code) = Err code

unfoldable pub called : Option Builtin → List Outcome → Outcome
called (Some f) operands = of_values f (values [] operands)
called None operands = unknown

-- What each kind of expression gives, with what its operands give in their places.
abbrev pub form : List Value → List Value → Expr-F Outcome Term → Outcome
form row binds (expr.Number n) = whole (pos n)
form row binds (expr.Text t) = Ok (text_value t)
form row binds expr.Null = Ok value.Null
form row binds (expr.Boolean b) = Ok (value.Bool b)
form row binds (expr.Place i) = known (slice_get row i)
form row binds (expr.Bind i) = known (slice_get binds i)
form row binds (expr.Plus a) = on unsigned a
form row binds (expr.Minus a) = of_one builtin.Negate a
form row binds (expr.Product a more) = fold (of_two op.Multiply) a more
form row binds (expr.Quotient a b) = of_two op.Quotient a b
form row binds (expr.Sum a more) = fold added a more
form row binds (expr.Compare c a b) = of_two (compared_by c) a b
form row binds (expr.IsNull a negated) = not_if negated (of_one builtin.IsNull a)
form row binds (expr.Between x a b negated) = not_if negated (on (between a b) x)
form row binds (expr.In x list negated) = not_if negated (on (among list) x)
form row binds (expr.Like a b negated) = not_if negated (of_two op.Like a b)
form row binds (expr.Not a) = of_one builtin.Not a
form row binds (expr.And a more) = fold (of_two op.And) a more
form row binds (expr.Or a more) = fold (of_two op.Or) a more
form row binds (expr.Call path operands) = called (builtin_at path.name path.member) operands
-- what only code has, and a column's name where no row is given
form row binds (expr.Name path) = unknown
form row binds (expr.Row image name) = unknown
form row binds expr.SqlCode = unknown
form row binds (expr.Firing event) = unknown
form row binds (expr.Attribute cursor what) = unknown

abbrev pub term : Addend-F Outcome Term → Term
term t = record { operator = added_by t.operator; operand = t.term }

-- The value of an expression for a row and for binds, or the first code that is raised.
unfoldable pub Eval : Expr → List Value → List Value → Outcome
Eval e row binds = fold-Expr Outcome Term (form row binds) term e
