-- What expressions do in code.
-- Oracle Database PL/SQL Language Reference 19c, Expressions.
--
-- An expression is read in a state, and then something is done with its value: it may call functions, which change the
-- state. Operands are computed from left to right, and the first fault ends it. An operand that isn't looked at isn't
-- computed.
use Rattle.std.specs.Prelude.{ℕ, zero, suc, pos, nat_eq, Bool, true, false, if◌then◌else◌, List, [], ◌∷◌, length, Option, Some, None}
use Rattle.ebr_base.specs.declared.object.Class.{Class}
use Rattle.ebr_base.specs.declared.object.Class.TheVariants as class
use Rattle.ebr_base.specs.declared.object.ObjectKey.{ObjectKey}
use Rattle.ebr_base.specs.declared.value.Value.{Value}
use Rattle.ebr_base.specs.declared.value.Value.TheVariants as value
use Rattle.ebr_base.specs.Values.{text_value}
use Rattle.ebr_exprtree.specs.declared.expression.Attribute.{Attribute}
use Rattle.ebr_exprtree.specs.declared.expression.Path.{Path}
use Rattle.ebr_exprtree.specs.declared.expression.RowImage.{RowImage}
use Rattle.ebr_exprtree.specs.declared.expression.RowImage.TheVariants as image
use Rattle.ebr_exprtree.specs.declared.expression.Expr.{Expr}
use Rattle.ebr_exprtree.specs.declared.expression.Addend.{Addend}
use Rattle.ebr_exprtree.specs.declared.expression.Expr.TheOpen.{Expr-F, Addend-F}
use Rattle.ebr_exprtree.specs.declared.expression.Expr.TheOpen as expr
use Rattle.ebr_exprtree.specs.declared.expression.Expr.TheFolds.{fold-Expr, fold-Addend}
use Rattle.ebr_value.specs.declared.form.BinOp.{BinOp}
use Rattle.ebr_value.specs.declared.form.BinOp.TheVariants as op
use Rattle.ebr_value.specs.declared.form.Builtin.{Builtin}
use Rattle.ebr_value.specs.declared.form.Builtin.TheVariants as builtin
use Rattle.ebr_value.specs.declared.form.Place.TheVariants.{Code as InCode}
use Rattle.ebr_value.specs.Outcomes.{whole}
use Rattle.ebr_value.specs.Forms.{binary, function}
use Rattle.ebr_expr.specs.Operators.{compared_by, added_by, builtin_at, unsigned, decided}
use Rattle.ebr_scope.specs.Meanings.{Word}
use Rattle.ebr_run.specs.declared.callee.Callee.{Callee}
use Rattle.ebr_run.specs.declared.callee.Reference.{Reference}
use Rattle.ebr_run.specs.declared.callee.Reference.TheVariants as reference
use Rattle.ebr_run.specs.declared.place.Location.{Location}
use Rattle.ebr_run.specs.declared.place.Location.TheVariants.{Own, Member}
use Rattle.ebr_run.specs.Faults.{ora}
use Rattle.ebr_run.specs.Cursors.{attribute_of}
use Rattle.ebr_run.specs.State.{Runs, Outcome, Normal, End, bare, then_run, broken}
use Rattle.ebr_run.specs.Values.{on_value, on_some, read, cursor_at, handled_at, number_of, new_at, old_at, firing, affected_attribute}
use Rattle.ebr_run.specs.Scope.{Env, Denoted, Variable, Subprogram, Cursor, callee, meant, meant_at, applied, column_place}

-- what a call does with its arguments, and what a reference to a package does
pub record Calls : Type 0 where
  pub call : Callee → List Value → Runs
  pub refer : Reference → Word → Runs

abbrev pub Then : Type 0
Then = Value → Runs

-- what an expression does, and then what is done with its value
abbrev pub Reading : Type 0
Reading = Env → Calls → Then → Runs

-- ---- names

-- a package's variable or cursor refers to the package
abbrev pub referred : Location → Calls → Runs → Runs
referred (Own k) calls next σ = next σ
referred (Member p k) calls next σ = then_run (calls.refer reference.Data p (bare σ)) next

abbrev pub located : Location → Calls → Then → Runs
located l calls next σ = referred l calls (read l next) σ

abbrev pub give_on : End → ℕ → Outcome → (List Value → Runs) → Outcome
give_on Normal n o next = if nat_eq (length o.state.memory.operands) n then next o.state.memory.operands o.state else broken o.state
give_on e n o next = o

-- what is done with the values that a call gives back, so many, where it is left normally
abbrev pub given_back : ℕ → Outcome → (List Value → Runs) → Outcome
given_back n o next = give_on o.end n o next

-- a call of a packaged subprogram refers to the package
abbrev pub referring : Class → Word → Calls → Runs → Runs
referring class.Body p calls next σ = then_run (calls.refer reference.Other p (bare σ)) next
referring c p calls next σ = next σ

abbrev pub called_with : Callee → List Value → Calls → (List Value → Runs) → Runs
called_with f vs calls next σ = referring f.unit.class f.unit.name calls (λ τ. given_back f.results (calls.call f vs (bare τ)) next) σ

-- the one value that a function gives
abbrev pub only_value : Then → List Value → Runs
only_value next (v ∷ []) σ = next v σ
only_value next vs σ = broken σ

-- the values of operands, from left to right
abbrev pub values : List Reading → Env → Calls → (List Value → Runs) → Runs
values [] env calls next σ = next [] σ
values (r ∷ rs) env calls next σ = r env calls (λ v τ. values rs env calls (λ vs υ. next (v ∷ vs) υ) τ) σ

abbrev pub function_called : ObjectKey → ℕ → List Reading → Reading
function_called key at rs env calls next σ = values rs env calls (λ vs. called_with (callee key at (length rs) 1) vs calls (only_value next)) σ

abbrev pub name_reading : Option Denoted → Reading
name_reading (Some (Variable l t)) env calls next σ = located l calls next σ
name_reading (Some (Subprogram key at h)) env calls next σ = function_called key at [] env calls next σ
name_reading d env calls next σ = broken σ

abbrev pub applied_reading : Option Denoted → List Reading → Reading
applied_reading (Some (Subprogram key at h)) rs env calls next σ = function_called key at rs env calls next σ
applied_reading d rs env calls next σ = broken σ

-- a built-in function, and else another one
abbrev pub call_reading : Option Builtin → Path → List Reading → Reading
call_reading (Some f) path rs env calls next σ = values rs env calls (λ vs τ. on_value (function f vs InCode) next τ) σ
call_reading None path rs env calls next σ = applied_reading (applied env path) rs env calls next σ

-- `:NEW.c` or `:OLD.c`
abbrev pub image_at : RowImage → Option ℕ → Then → Runs
image_at image.New (Some k) next σ = new_at k next σ
image_at image.Old (Some k) next σ = old_at k next σ
image_at i None next σ = broken σ

-- ---- operators

abbrev pub of_one : Builtin → Reading → Reading
of_one f a env calls next σ = a env calls (λ x τ. on_value (function f (x ∷ []) InCode) next τ) σ

abbrev pub unless_decided : Option Value → Then → Runs → Runs
unless_decided (Some v) next further σ = next v σ
unless_decided None next further σ = further σ

-- An operator behind its left operand; the right one isn't computed where the left one decides.
abbrev pub of_two : BinOp → Value → Reading → Reading
of_two o x b env calls next σ = unless_decided (decided o x) next (b env calls (λ y τ. on_value (binary o x y InCode) next τ)) σ

-- an operand of a sum, with the operator before it
pub record Term : Type 0 where
  pub operator : BinOp
  pub operand : Reading

-- further operands behind a value
abbrev pub further : BinOp → List Reading → Value → Reading
further o [] x env calls next σ = next x σ
further o (b ∷ bs) x env calls next σ = of_two o x b env calls (λ y τ. further o bs y env calls next τ) σ

abbrev pub summed : List Term → Value → Reading
summed [] x env calls next σ = next x σ
summed (t ∷ ts) x env calls next σ = of_two t.operator x t.operand env calls (λ y τ. summed ts y env calls next τ) σ

abbrev pub not_if : Bool → Then → Then
not_if true next x σ = on_value (function builtin.Not (x ∷ []) InCode) next σ
not_if false next x σ = next x σ

-- x BETWEEN a AND b: x >= a AND x <= b
abbrev pub between : Value → Reading → Reading → Reading
between x a b env calls next σ =
    of_two op.GreaterOrEqual x a env calls (λ c τ. of_two op.And c (λ e ks more υ. of_two op.LessOrEqual x b e ks more υ) env calls next τ) σ

-- x IN (..): the OR of the equalities, in order
abbrev pub among : Value → List Reading → Value → Reading
among x [] found env calls next σ = next found σ
among x (b ∷ bs) found env calls next σ =
    of_two op.Or found (λ e ks more υ. of_two op.Equal x b e ks more υ) env calls (λ c τ. among x bs c env calls next τ) σ

-- ---- attributes

abbrev pub cursor_attribute : Attribute → Option Denoted → Reading
cursor_attribute a (Some (Cursor l q fs)) env calls next σ = referred l calls (λ τ. on_some (attribute_of a (cursor_at l τ)) (ora 1001) next τ) σ
cursor_attribute a d env calls next σ = broken σ

-- those of `SQL` are of no cursor
abbrev pub attribute_reading : Option Word → Attribute → Reading
attribute_reading None a env calls next σ = next (affected_attribute a σ.affected) σ
attribute_reading (Some c) a env calls next σ = cursor_attribute a (meant_at env c None) env calls next σ

-- SQLCODE is that of the innermost handler around it.
abbrev pub sqlcode_reading : ℕ → Then → Runs
sqlcode_reading zero next σ = next (value.Num (pos 0)) σ
sqlcode_reading (suc n) next σ = handled_at n (λ f τ. next (number_of f) τ) σ

-- ---- expressions

-- What each kind of expression does, with what its operands do in their places.
abbrev pub reads : Expr-F Reading Term → Reading
reads (expr.Number n) env calls next σ = on_value (whole (pos n)) next σ
reads (expr.Text t) env calls next σ = next (text_value t) σ
reads expr.Null env calls next σ = next value.Null σ
reads (expr.Boolean b) env calls next σ = next (value.Bool b) σ
reads (expr.Name path) env calls next σ = name_reading (meant env path) env calls next σ
reads (expr.Call path rs) env calls next σ = call_reading (builtin_at path.name path.member) path rs env calls next σ
reads (expr.Row i c) env calls next σ = image_at i (column_place env c) next σ
reads expr.SqlCode env calls next σ = sqlcode_reading env.handlers next σ
reads (expr.Firing event) env calls next σ = firing event next σ
reads (expr.Attribute c a) env calls next σ = attribute_reading c a env calls next σ
reads (expr.Quotient a b) env calls next σ = a env calls (λ x τ. of_two op.Quotient x b env calls next τ) σ
reads (expr.Plus a) env calls next σ = a env calls (λ x τ. on_value (unsigned x) next τ) σ
reads (expr.Minus a) env calls next σ = of_one builtin.Negate a env calls next σ
reads (expr.Product a more) env calls next σ = a env calls (λ x τ. further op.Multiply more x env calls next τ) σ
reads (expr.Sum a more) env calls next σ = a env calls (λ x τ. summed more x env calls next τ) σ
reads (expr.Compare c a b) env calls next σ = a env calls (λ x τ. of_two (compared_by c) x b env calls next τ) σ
reads (expr.IsNull a negated) env calls next σ = of_one builtin.IsNull a env calls (not_if negated next) σ
reads (expr.Between x a b negated) env calls next σ = x env calls (λ v τ. between v a b env calls (not_if negated next) τ) σ
reads (expr.In x items negated) env calls next σ = x env calls (λ v τ. among v items (value.Bool false) env calls (not_if negated next) τ) σ
reads (expr.Like a b negated) env calls next σ = a env calls (λ x τ. of_two op.Like x b env calls (not_if negated next) τ) σ
reads (expr.Not a) env calls next σ = of_one builtin.Not a env calls next σ
reads (expr.And a more) env calls next σ = a env calls (λ x τ. further op.And more x env calls next τ) σ
reads (expr.Or a more) env calls next σ = a env calls (λ x τ. further op.Or more x env calls next τ) σ
-- what stands in statements of SQL alone
reads (expr.Place k) env calls next σ = broken σ
reads (expr.Bind k) env calls next σ = broken σ

abbrev pub term : Addend-F Reading Term → Term
term t = record { operator = added_by t.operator; operand = t.term }

unfoldable pub reading_of : Expr → Reading
reading_of = fold-Expr Reading Term reads term

unfoldable pub term_of : Addend → Term
term_of = fold-Addend Reading Term reads term
