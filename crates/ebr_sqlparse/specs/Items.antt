-- What an item of a query's list is, without its alias (Oracle Database SQL Language Reference 19c, SELECT and Aggregate
-- Functions; which aggregates there are is this server's own choice).
use Rattle.std.specs.Prelude.{◌≡◌, ℕ, Bool, false, ◌&&◌, ◌⊎◌, if◌then◌else◌, List, [], ◌∷◌, drop, Option, Some, None}
use Rattle.ebr_lexer.specs.declared.token.Token.{Token}
use Rattle.ebr_grammar.specs.declared.kind.Kind.TheVariants as k
use Rattle.ebr_grammar.specs.Forms.{Form, Reader, sees}
use Rattle.ebr_grammar.specs.Grammar.{Production, word, Spells}
use Rattle.ebr_grammar.specs.Reading.{and_then, Hints, reads}
use Rattle.ebr_grammar.specs.Words.{◌▸◌}
use Rattle.ebr_exprtree.specs.declared.expression.Expr.{Expr, out-Expr}
use Rattle.ebr_exprtree.specs.declared.expression.Expr.TheOpen.{Expr-F}
use Rattle.ebr_exprtree.specs.declared.expression.Expr.TheOpen as form
use Rattle.ebr_exprtree.specs.declared.expression.Addend.{Addend}
use Rattle.ebr_ast.specs.declared.query.ItemKind.{ItemKind}
use Rattle.ebr_ast.specs.declared.query.ItemKind.TheVariants as item
use Rattle.ebr_ast.specs.declared.query.Aggregate.{Aggregate}
use Rattle.ebr_ast.specs.declared.query.Aggregate.TheVariants as aggregate
use Rattle.ebr_exprparse.specs.Expressions.{SpellsExpr, read_expression}
use Rattle.ebr_sqlparse.specs.declared.items.Function.{Function}
use Rattle.ebr_sqlparse.specs.declared.items.Function.TheVariants as function

-- ---- COUNT ( * )

abbrev pub no_form : ⊥ → Form (Unit {0})
no_form k ts a = ⊥

abbrev pub no_reader : ⊥ → Reader (Unit {0})
no_reader k ts = None

abbrev pub no_hints : Hints ⊥
no_hints = record { begins = λ _. []; goes_on = λ _. [] }

unfoldable pub rows : Production ⊥ (λ _. Unit {0}) ItemKind
rows = k.Count ▸ k.LeftParen ▸ k.Star ▸ word k.RightParen (item.Aggregate aggregate.CountRows)

abbrev pub SpellsRows : Form ItemKind
SpellsRows = Spells no_form rows

abbrev pub read_rows : Reader ItemKind
read_rows = reads no_hints no_reader rows

-- COUNT ( * stands in front
unfoldable pub counts_rows : List Token → Bool
counts_rows ts = sees (k.Count ∷ []) ts && (sees (k.LeftParen ∷ []) (drop 1 ts) && sees (k.Star ∷ []) (drop 2 ts))

-- ---- the other aggregates

-- the aggregate whose name stands in front
unfoldable pub function_ahead : List Token → Option Function
function_ahead ts =
    if sees (k.Count ∷ []) ts then Some function.Count
    else if sees (k.Sum ∷ []) ts then Some function.Sum
    else if sees (k.Min ∷ []) ts then Some function.Min
    else if sees (k.Max ∷ []) ts then Some function.Max
    else None

abbrev pub aggregate_of : Function → Expr → Aggregate
aggregate_of function.Count x = aggregate.Count x
aggregate_of function.Sum x = aggregate.Sum x
aggregate_of function.Min x = aggregate.Min x
aggregate_of function.Max x = aggregate.Max x

abbrev pub one : Option (List ℕ) → List Expr → Option Expr
one None (x ∷ []) = Some x
one _ _ = None

-- the only argument of a call without a member
abbrev pub only_argument : Expr-F Expr Addend → Option Expr
only_argument (form.Call p arguments) = one p.member arguments
only_argument _ = None

abbrev pub judged : Function → Expr → Option Expr → ItemKind
judged f x None = item.Expr x
judged f x (Some argument) = item.Aggregate (aggregate_of f argument)

-- The item of an expression that begins with the name of an aggregate. Only `COUNT ( e )` itself is a call that begins so:
-- with more behind it the tree is another one, and in parentheses it begins with the parenthesis.
unfoldable pub item_of_call : Function → Expr → ItemKind
item_of_call f x = judged f x (only_argument (out-Expr x))

abbrev pub item_of : Option Function → Expr → ItemKind
item_of None x = item.Expr x
item_of (Some f) x = item_of_call f x

-- COUNT ( * ), or an expression; where it is an aggregate's name with one argument, it is that aggregate. No expression
-- begins with COUNT ( *.
abbrev pub SpellsWhat : Form ItemKind
SpellsWhat ts w = SpellsRows ts w ⊎ ((x : Expr) × (counts_rows ts ≡ false) × SpellsExpr ts x × (item_of (function_ahead ts) x ≡ w))

abbrev pub read_plain : Reader ItemKind
read_plain ts = and_then (read_expression ts) (λ x end. Some (item_of (function_ahead ts) x, end))

unfoldable pub read_what : Reader ItemKind
read_what ts = if counts_rows ts then read_rows ts else read_plain ts
