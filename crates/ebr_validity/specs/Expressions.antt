-- The places in an expression in code, and the type of the expression. One line for each kind, with what is read of its
-- operands in their places.
-- Oracle Database PL/SQL Language Reference 19c, Expressions; that no value is converted but a number that `||` joins is own.
use Rattle.std.specs.Prelude.{ℕ, suc, Bool, true, false, not, if◌then◌else◌, List, [], ◌∷◌, ◌++◌, length, drop, Option, Some, None}
use Rattle.ebr_exprtree.specs.declared.expression.AdditiveOperator.{AdditiveOperator}
use Rattle.ebr_exprtree.specs.declared.expression.Attribute.{Attribute}
use Rattle.ebr_exprtree.specs.declared.expression.Attribute.TheVariants as attribute
use Rattle.ebr_exprtree.specs.declared.expression.Comparison.{Comparison}
use Rattle.ebr_exprtree.specs.declared.expression.Comparison.TheVariants as comparison
use Rattle.ebr_exprtree.specs.declared.expression.Path.{Path}
use Rattle.ebr_exprtree.specs.declared.expression.RowImage.{RowImage}
use Rattle.ebr_exprtree.specs.declared.expression.RowImage.TheVariants as image
use Rattle.ebr_exprtree.specs.declared.expression.Expr.{Expr}
use Rattle.ebr_exprtree.specs.declared.expression.Addend.{Addend}
use Rattle.ebr_exprtree.specs.declared.expression.Expr.TheOpen.{Expr-F, Addend-F}
use Rattle.ebr_exprtree.specs.declared.expression.Expr.TheOpen as expr
use Rattle.ebr_exprtree.specs.declared.expression.Expr.TheFolds.{fold-Expr, fold-Addend}
use Rattle.ebr_ast.specs.declared.kinds.Timing.{Timing}
use Rattle.ebr_ast.specs.declared.kinds.Timing.TheVariants as timing
use Rattle.ebr_ast.specs.declared.unit.Head.{Head}
use Rattle.ebr_ast.specs.declared.unit.Parameter.{Parameter}
use Rattle.ebr_value.specs.declared.form.Builtin.{Builtin}
use Rattle.ebr_expr.specs.Operators.{builtin_at}
use Rattle.ebr_sqlcheck.specs.declared.value_type.ValueType.{ValueType}
use Rattle.ebr_sqlcheck.specs.declared.value_type.ValueType.TheVariants as type
use Rattle.ebr_sqlcheck.specs.Types.{Known, first_known, type_of_text}
use Rattle.ebr_sqlcheck.specs.Functions.{takes_any_type, taken, builtin_type}
use Rattle.ebr_sqlcheck.specs.Operands.{sum_type}
use Rattle.ebr_validity.specs.declared.typed.Typed.{Typed}
use Rattle.ebr_scope.specs.Meanings.{Word, Meaning, Variable, Constant, Parameter as Passed, Subprogram, is_out, is_target}
use Rattle.ebr_scope.specs.Declarations.{parameter_type, result_type}
use Rattle.ebr_scope.specs.Names.{meant, meant_at, applied}
use Rattle.ebr_scope.specs.Around.{Env, image_type}
use Rattle.ebr_validity.specs.Sites.{Site, Operand, Applies, Asks, Fits, Builtins, Adds, Compares, Passes, Images, Fires, Placed}

-- what is read of an expression
pub record Reading : Type 0 where
  pub typed : Typed
  pub sites : List Site

abbrev pub Read : Type 0
Read = Env → Reading

-- a value that can't be assigned
abbrev pub only_value : Known → Typed
only_value t = record { ty = t; target = false }

abbrev pub value : ValueType → List Site → Reading
value t sites = record { typed = only_value (Some t); sites = sites }

abbrev pub sites_of : Read → Env → List Site
sites_of r env = (r env).sites

abbrev pub type_of : Read → Env → Known
type_of r env = (r env).typed.ty

-- ---- names

abbrev pub operand_type : Env → Option Meaning → Known
operand_type env (Some (Variable t)) = t
operand_type env (Some (Constant t)) = t
operand_type env (Some (Passed m t)) = t
operand_type env (Some (Subprogram h)) = result_type env.view h.result
operand_type env m = None

abbrev pub name_told : Env → Option Meaning → Typed
name_told env m = record { ty = operand_type env m; target = is_target m }

abbrev pub name_reading : Env → Option Meaning → Reading
name_reading env m = record { typed = name_told env m; sites = Operand m ∷ [] }

-- ---- `:NEW.c` and `:OLD.c`

abbrev pub is_after : Option Timing → Bool
is_after (Some timing.After) = true
is_after t = false

-- `:NEW.c` takes a value but in an AFTER trigger; outside triggers another rule refuses it.
abbrev pub is_image_target : RowImage → Option Timing → Bool
is_image_target image.New t = not (is_after t)
is_image_target image.Old t = false

abbrev pub image_reading : Env → RowImage → Word → Reading
image_reading env i c = record {
  typed = record { ty = image_type env c; target = is_image_target i env.timing };
  sites = Images env.timing (image_type env c) ∷ [];
}

-- ---- operands and arguments

-- an operand where a type is wanted
abbrev pub wanted : ValueType → Read → Env → List Site
wanted t r env = sites_of r env ++ Fits (Some t) (type_of r env) ∷ []

abbrev pub all_wanted : ValueType → List Read → Env → List Site
all_wanted t [] env = []
all_wanted t (r ∷ rs) env = wanted t r env ++ all_wanted t rs env

-- an argument, for the first of the parameters that are left
abbrev pub passed : Env → List Parameter → Typed → List Site
passed env [] t = []
passed env (p ∷ ps) t = Fits (parameter_type env.view p.ty) t.ty ∷ Passes (is_out p.mode) t.target ∷ []

abbrev pub arguments : List Read → List Parameter → Env → List Site
arguments [] ps env = []
arguments (r ∷ rs) ps env = (sites_of r env ++ passed env ps (r env).typed) ++ arguments rs (drop 1 ps) env

abbrev pub parameters_of : Option Head → List Parameter
parameters_of None = []
parameters_of (Some h) = h.parameters

abbrev pub head_type : Env → Option Head → Known
head_type env None = None
head_type env (Some h) = result_type env.view h.result

-- the operands of a built-in function from a place on
abbrev pub operands_from : Builtin → ℕ → List Read → Env → List Site
operands_from f at [] env = []
operands_from f at (r ∷ rs) env = wanted (taken f at) r env ++ operands_from f (suc at) rs env

abbrev pub behind : List Site → Reading → Reading
behind sites r = record r { sites = sites ++ r.sites }

-- operands of any one type, behind others of which it is known so far
abbrev pub one_type : Known → List Read → Env → Reading
one_type t [] env = record { typed = only_value t; sites = [] }
one_type t (r ∷ rs) env = behind (sites_of r env ++ Fits t (type_of r env) ∷ []) (one_type (first_known t (type_of r env)) rs env)

abbrev pub builtin_operands : Builtin → List Read → Env → Reading
builtin_operands f rs env = if takes_any_type f then one_type None rs env else value (builtin_type f) (operands_from f 0 rs env)

abbrev pub applied_reading : Env → Option Head → List Read → Reading
applied_reading env h rs = record { typed = only_value (head_type env h); sites = Applies h (length rs) ∷ arguments rs (parameters_of h) env }

-- a built-in function, and else another one
abbrev pub call_reading : Option Builtin → Path → List Read → Env → Reading
call_reading (Some f) path rs env = behind (Builtins f (length rs) ∷ []) (builtin_operands f rs env)
call_reading None path rs env = applied_reading env (applied env.view env.scope path) rs

-- ---- operators

-- an operand of a sum, with the operator before it
pub record Term : Type 0 where
  pub operator : AdditiveOperator
  pub operand : Read

-- one term more of a sum whose type is known so far
abbrev pub added_sites : Known → Term → Env → List Site
added_sites t term env = Adds term.operator t ∷ (sites_of term.operand env ++ Adds term.operator (type_of term.operand env) ∷ [])

-- the terms of a sum behind others whose type is known
abbrev pub sum_from : Known → List Term → Env → Reading
sum_from t [] env = record { typed = only_value t; sites = [] }
sum_from t (term ∷ rest) env =
    behind (added_sites t term env) (sum_from (Some (sum_type term.operator)) rest env)

-- a comparison of an operand whose type has been read with another one
abbrev pub compared : Comparison → Known → Read → Env → List Site
compared c t r env = sites_of r env ++ Compares c t (type_of r env) ∷ []

abbrev pub all_compared : Comparison → Known → List Read → Env → List Site
all_compared c t [] env = []
all_compared c t (r ∷ rs) env = compared c t r env ++ all_compared c t rs env

-- ---- attributes

abbrev pub attribute_type : Attribute → ValueType
attribute_type attribute.RowCount = type.Number
attribute_type a = type.Boolean

-- those of `SQL` are of no cursor
abbrev pub attribute_sites : Env → Option Word → List Site
attribute_sites env None = []
attribute_sites env (Some c) = Asks (meant_at env.view env.scope c None) ∷ []

-- ---- expressions

abbrev pub reads : Expr-F Read Term → Read
reads (expr.Number n) env = value type.Number []
reads (expr.Text t) env = record { typed = only_value (type_of_text t); sites = [] }
reads expr.Null env = record { typed = only_value None; sites = [] }
reads (expr.Boolean b) env = value type.Boolean []
reads (expr.Name path) env = name_reading env (meant env.view env.scope path)
reads (expr.Call path rs) env = call_reading (builtin_at path.name path.member) path rs env
reads (expr.Quotient a b) env = value type.Number (wanted type.Number a env ++ wanted type.Number b env)
reads (expr.Row i c) env = image_reading env i c
reads expr.SqlCode env = value type.Number []
reads (expr.Firing event) env = value type.Boolean (Fires env.timing ∷ [])
reads (expr.Attribute cursor what) env = value (attribute_type what) (attribute_sites env cursor)
reads (expr.Plus a) env = value type.Number (wanted type.Number a env)
reads (expr.Minus a) env = value type.Number (wanted type.Number a env)
reads (expr.Product a more) env = value type.Number (wanted type.Number a env ++ all_wanted type.Number more env)
reads (expr.Sum a more) env = behind (sites_of a env) (sum_from (type_of a env) more env)
reads (expr.Compare c a b) env = value type.Boolean (sites_of a env ++ compared c (type_of a env) b env)
reads (expr.IsNull a negated) env = value type.Boolean (sites_of a env)
-- x BETWEEN a AND b is x >= a AND x <= b, and x IN (..) an OR of equalities
reads (expr.Between x a b negated) env = value type.Boolean (sites_of x env
    ++ (compared comparison.GreaterOrEqual (type_of x env) a env ++ compared comparison.LessOrEqual (type_of x env) b env))
reads (expr.In x list negated) env = value type.Boolean (sites_of x env ++ all_compared comparison.Equal (type_of x env) list env)
reads (expr.Like a b negated) env = value type.Boolean (wanted type.Text a env ++ wanted type.Text b env)
reads (expr.Not a) env = value type.Boolean (wanted type.Boolean a env)
reads (expr.And a more) env = value type.Boolean (wanted type.Boolean a env ++ all_wanted type.Boolean more env)
reads (expr.Or a more) env = value type.Boolean (wanted type.Boolean a env ++ all_wanted type.Boolean more env)
reads (expr.Place at) env = record { typed = only_value None; sites = Placed ∷ [] }
reads (expr.Bind at) env = record { typed = only_value None; sites = Placed ∷ [] }

abbrev pub reads_term : Addend-F Read Term → Term
reads_term t = record { operator = t.operator; operand = t.term }

unfoldable pub reading_of : Expr → Read
reading_of = fold-Expr Read Term reads reads_term

unfoldable pub term_of : Addend → Term
term_of = fold-Addend Read Term reads reads_term
