-- The grammar of expressions (Oracle Database SQL Language Reference 19c, Expressions, Conditions and Operators;
-- PL/SQL Language Reference 19c, Expression; which of their forms there are is this server's own choice).
use Rattle.std.specs.Prelude.{◌≤◌, ℕ, length, drop, slice_range, Bool, true, false, if◌then◌else◌, List, [], ◌∷◌, ◌++◌, Option, Some, None}
use Rattle.ebr_lexer.specs.declared.token.Token.{Token}
use Rattle.ebr_grammar.specs.declared.kind.Kind.{Kind}
use Rattle.ebr_grammar.specs.declared.kind.Kind.TheVariants as k
use Rattle.ebr_grammar.specs.Kinds.{name_kinds, names_but}
use Rattle.ebr_grammar.specs.Forms.{Found, Reader, sees}
use Rattle.ebr_grammar.specs.Grammar.{Production, token, word, nothing, both, many, made, tested, led, named, SpellsAny}
use Rattle.ebr_grammar.specs.Reading.{and_then, Hints, reads_within}
use Rattle.ebr_grammar.specs.Outcome.{number_of, content_of, named_by}
use Rattle.ebr_grammar.specs.Words.{mark, ◌▸◌, ◌◂◌, ◌∣◌, maybe, name, is_there, all}
use Rattle.ebr_exprtree.specs.declared.expression.Expr.{Expr}
use Rattle.ebr_exprtree.specs.declared.expression.Expr.TheVariants as e
use Rattle.ebr_exprtree.specs.declared.expression.Addend.{Addend, roll-Addend}
use Rattle.ebr_exprtree.specs.declared.expression.Path.{Path}
use Rattle.ebr_exprtree.specs.declared.expression.Comparison.{Comparison}
use Rattle.ebr_exprtree.specs.declared.expression.Comparison.TheVariants as compared
use Rattle.ebr_exprtree.specs.declared.expression.AdditiveOperator.{AdditiveOperator}
use Rattle.ebr_exprtree.specs.declared.expression.AdditiveOperator.TheVariants as additive
use Rattle.ebr_exprtree.specs.declared.expression.RowImage.{RowImage}
use Rattle.ebr_exprtree.specs.declared.expression.RowImage.TheVariants as image
use Rattle.ebr_exprtree.specs.declared.expression.Attribute.{Attribute}
use Rattle.ebr_exprtree.specs.declared.expression.Attribute.TheVariants as attribute_of
use Rattle.ebr_exprtree.specs.declared.op.Op.TheVariants as op
use Rattle.ebr_exprparse.specs.declared.level.Level.{Level}
use Rattle.ebr_exprparse.specs.declared.level.Level.TheVariants.{Whole, Sum}

-- ---- trees

-- a tree, and whether it is spelled as a sum, without a comparison, NOT, AND or OR outside of its parentheses
abbrev pub Read : Type 0
Read = Expr × Bool

abbrev pub P : Type 0 → Type 1
P C = Production Level (λ _. Read) C

-- operands of one level: one alone is its own tree
abbrev pub joined : (Expr → List Expr → Expr) → Expr → List Expr → Expr
joined f first [] = first
joined f first (x ∷ xs) = f first (x ∷ xs)

abbrev pub summed : Expr → List Addend → Expr
summed first [] = first
summed first (x ∷ xs) = e.Sum first (x ∷ xs)

abbrev pub combined : (Expr → List Expr → Expr) → Read → List Expr → Read
combined f first [] = first
combined f first (x ∷ xs) = (f first.0 (x ∷ xs), false)

abbrev pub path : List ℕ → Option (List ℕ) → Path
path name member = record { name = name; member = member }

abbrev pub name_or_call : Path → Option (List Expr) → Expr
name_or_call p None = e.Name p
name_or_call p (Some arguments) = e.Call p arguments

-- the quotient of a sum
abbrev pub quotient : Read → Expr → Option Expr
quotient a b = if a.1 then Some (e.Quotient a.0 b) else None

-- ---- productions

abbrev pub whole : P Read
whole = named Whole (λ x. x)

unfoldable pub inner : P Expr
inner = made (λ x. x.0) whole

unfoldable pub inner_sum : P Expr
inner_sum = made (λ x. x.0) (named Sum (λ x. x))

-- behind the first item
unfoldable pub more_items : P (Expr → List Expr)
more_items = many (λ found first. first ∷ found) (k.Comma ▸ inner)

-- one or more, with commas
unfoldable pub list : P (List Expr)
list = both (λ first f. f first) inner more_items

-- behind the parenthesis
unfoldable pub arguments : P (List Expr)
arguments = word k.RightParen [] ∣ list ◂ k.RightParen

unfoldable pub maybe_arguments : P (Option (List Expr))
maybe_arguments = maybe (k.LeftParen ▸ arguments)

-- behind the dot
unfoldable pub member : P (List ℕ → Expr)
member = both (λ second maybe_arguments first. name_or_call (path first (Some second)) maybe_arguments) name maybe_arguments

-- behind `%`
unfoldable pub attribute : P Attribute
attribute = word k.Found attribute_of.Found
    ∣ word k.Notfound attribute_of.NotFound
    ∣ word k.Rowcount attribute_of.RowCount
    ∣ word k.Isopen attribute_of.IsOpen

-- behind `SQL %`
unfoldable pub statement_attribute : P Attribute
statement_attribute = word k.Found attribute_of.Found
    ∣ word k.Notfound attribute_of.NotFound
    ∣ word k.Rowcount attribute_of.RowCount

-- behind SQL
unfoldable pub sql_attribute : P Expr
sql_attribute = k.Percent ▸ made (λ a. e.Attribute None a) statement_attribute

unfoldable pub divisor : P Expr
divisor = inner_sum ◂ k.RightParen

-- behind the first argument of TRUNC, where no `/` follows it
unfoldable pub trunc_call : P (Read → List ℕ → Option Expr)
trunc_call = both (λ f _ a first. Some (e.Call (path first None) (f a.0))) more_items (mark k.RightParen)

-- Behind the first argument of TRUNC: the divisor, where that was a sum, or more arguments.
unfoldable pub trunc_end : P (Read → List ℕ → Option Expr)
trunc_end = k.Slash ▸ made (λ b a _. quotient a b) divisor ∣ trunc_call

unfoldable pub trunc_arguments : P (List ℕ → Option Expr)
trunc_arguments = word k.RightParen (λ first. Some (e.Call (path first None) [])) ∣ both (λ a f. f a) whole trunc_end

-- behind TRUNC
unfoldable pub trunc_tail : P (List ℕ → Option Expr)
trunc_tail = k.LeftParen ▸ trunc_arguments
    ∣ k.Dot ▸ made (λ f first. Some (f first)) member
    ∣ k.Percent ▸ made (λ a first. Some (e.Attribute (Some first) a)) attribute
    ∣ nothing (λ first. Some (e.Name (path first None)))

-- behind another name
unfoldable pub name_tail : P (List ℕ → Expr)
name_tail = k.Dot ▸ member
    ∣ k.Percent ▸ made (λ a first. e.Attribute (Some first) a) attribute
    ∣ made (λ maybe_arguments first. name_or_call (path first None) maybe_arguments) maybe_arguments

unfoldable pub closed : P Expr
closed = inner ◂ k.RightParen

unfoldable pub row_image : P RowImage
row_image = word k.New image.New ∣ word k.Old image.Old

-- behind the colon
unfoldable pub row_column : P Expr
row_column = both (λ i n. e.Row i n) row_image (k.Dot ▸ name)

-- the words that stand for themselves
unfoldable pub constant : P Expr
constant = word k.Null e.Null
    ∣ word k.True (e.Boolean true)
    ∣ word k.False (e.Boolean false)
    ∣ word k.Sqlcode e.SqlCode
    ∣ word k.Inserting (e.Firing op.Insert)
    ∣ word k.Updating (e.Firing op.Update)
    ∣ word k.Deleting (e.Firing op.Delete)

abbrev pub constants : List Kind
constants = k.Null ∷ k.True ∷ k.False ∷ k.Sqlcode ∷ k.Inserting ∷ k.Updating ∷ k.Deleting ∷ []

-- a name with what stands behind it
unfoldable pub reference : P Expr
reference = tested (λ found. found) (both (λ first f. f first) (token (k.Trunc ∷ []) named_by) trunc_tail)
    ∣ both (λ first f. f first) (token (names_but (k.Trunc ∷ [])) named_by) name_tail

unfoldable pub primary : P Expr
primary = made e.Number (token (k.NumberLiteral ∷ []) number_of)
    ∣ made e.Text (token (k.TextLiteral ∷ []) content_of)
    ∣ k.LeftParen ▸ closed
    ∣ led constants constant
    ∣ k.Colon ▸ row_column
    ∣ k.Sql ▸ sql_attribute
    ∣ reference

unfoldable pub factor : P Expr
factor = k.Plus ▸ made e.Plus primary ∣ k.Minus ▸ made e.Minus primary ∣ primary

unfoldable pub more_factors : P (List Expr)
more_factors = all (k.Star ▸ factor)

unfoldable pub term : P Expr
term = both (joined e.Product) factor more_factors

unfoldable pub operator : P AdditiveOperator
operator = word k.Plus additive.Add ∣ word k.Minus additive.Subtract ∣ word k.Concat additive.Concatenate

abbrev pub operators : List Kind
operators = k.Plus ∷ k.Minus ∷ k.Concat ∷ []

unfoldable pub addend : P Addend
addend = both (λ o x. roll-Addend (record { operator = o; term = x })) operator term

unfoldable pub more_terms : P (List Addend)
more_terms = all (led operators addend)

unfoldable pub sum : P Expr
sum = both summed term more_terms

-- behind IN, where NOT stood before it or not
unfoldable pub closed_list : P (List Expr)
closed_list = k.LeftParen ▸ list ◂ k.RightParen

unfoldable pub in_list : Bool → P (Expr → Expr)
in_list negated = made (λ items a. e.In a items negated) closed_list

unfoldable pub range_end : P Expr
range_end = k.And ▸ sum

-- behind BETWEEN
unfoldable pub range : Bool → P (Expr → Expr)
range negated = both (λ low high a. e.Between a low high negated) sum range_end

-- behind LIKE
unfoldable pub pattern : Bool → P (Expr → Expr)
pattern negated = made (λ b a. e.Like a b negated) sum

-- behind IS
unfoldable pub null_test : P (Expr → Expr)
null_test = both (λ negated _ a. e.IsNull a negated) (is_there k.Not) (mark k.Null)

unfoldable pub membership : Bool → P (Expr → Expr)
membership negated = k.In ▸ in_list negated ∣ k.Between ▸ range negated ∣ k.Like ▸ pattern negated

unfoldable pub test : P (Expr → Expr)
test = k.Is ▸ null_test ∣ k.Not ▸ membership true ∣ membership false

unfoldable pub sign : P Comparison
sign = word k.Equal compared.Equal
    ∣ word k.NotEqual compared.NotEqual
    ∣ word k.Less compared.Less
    ∣ word k.AtMost compared.LessOrEqual
    ∣ word k.Greater compared.Greater
    ∣ word k.AtLeast compared.GreaterOrEqual

abbrev pub signs : List Kind
signs = k.Equal ∷ k.NotEqual ∷ k.Less ∷ k.AtMost ∷ k.Greater ∷ k.AtLeast ∷ []

unfoldable pub signed : P (Expr → Expr)
signed = both (λ by b a. e.Compare by a b) sign sum

abbrev pub tests : List Kind
tests = k.Is ∷ k.Not ∷ k.In ∷ k.Between ∷ k.Like ∷ []

-- behind the first sum of a comparison
unfoldable pub comparison_tail : P (Expr → Read)
comparison_tail = led signs (made (λ f a. (f a, false)) signed)
    ∣ led tests (made (λ f a. (f a, false)) test)
    ∣ nothing (λ a. (a, true))

unfoldable pub comparison : P Read
comparison = both (λ a f. f a) sum comparison_tail

unfoldable pub negation : P Read
negation = k.Not ▸ made (λ x. (e.Not x.0, false)) comparison ∣ comparison

unfoldable pub negated_tree : P Expr
negated_tree = made (λ x. x.0) negation

unfoldable pub more_negations : P (List Expr)
more_negations = all (k.And ▸ negated_tree)

unfoldable pub conjunction : P Read
conjunction = both (combined e.And) negation more_negations

unfoldable pub conjoined_tree : P Expr
conjoined_tree = made (λ x. x.0) conjunction

unfoldable pub more_conjunctions : P (List Expr)
more_conjunctions = all (k.Or ▸ conjoined_tree)

unfoldable pub disjunction : P Read
disjunction = both (combined e.Or) conjunction more_conjunctions

-- a sum where it stands alone
unfoldable pub sum_alone : P Read
sum_alone = made (λ x. (x, true)) sum

unfoldable pub grammar : (l : Level) → P Read
grammar Whole = disjunction
grammar Sum = sum_alone

unfoldable pub begins : Level → List Kind
begins Whole = k.Not ∷ k.Plus ∷ k.Minus ∷ k.NumberLiteral ∷ k.TextLiteral ∷ k.LeftParen ∷ k.Colon ∷ k.Sql ∷ constants ++ name_kinds
begins Sum = k.Plus ∷ k.Minus ∷ k.NumberLiteral ∷ k.TextLiteral ∷ k.LeftParen ∷ k.Colon ∷ k.Sql ∷ constants ++ name_kinds

-- with what an expression goes on
unfoldable pub goes_on : Level → List Kind
goes_on Whole = k.LeftParen ∷ k.Dot ∷ k.Percent ∷ k.Star ∷ k.Plus ∷ k.Minus ∷ k.Concat ∷ k.Equal ∷ k.NotEqual ∷ k.Less ∷ k.AtMost ∷ k.Greater ∷ k.AtLeast ∷ k.Is ∷ k.Not ∷ k.In ∷ k.Between ∷ k.Like ∷ k.And ∷ k.Or ∷ []
goes_on Sum = k.LeftParen ∷ k.Dot ∷ k.Percent ∷ k.Star ∷ k.Plus ∷ k.Minus ∷ k.Concat ∷ []

unfoldable pub hints : Hints Level
hints = record { begins = begins; goes_on = goes_on }

-- ---- what is read, and what is spelled

abbrev pub tree_of : Found Read → Found Expr
tree_of found = and_then found (λ x end. Some (x.0, end))

-- The reading of an expression to a depth.
abbrev pub read_within : ℕ → Level → Reader Read
read_within n l = reads_within hints grammar n l

-- The reading of an expression.
unfoldable pub read_expression : Reader Expr
read_expression ts = tree_of (read_within (length ts) Whole ts)

-- The tokens spell the expression.
abbrev pub SpellsExpr : List Token → Expr → Type 0
SpellsExpr ts x = (is_sum : Bool) × SpellsAny grammar Whole ts (x, is_sum)

-- The tokens from a place to before another spell the expression.
abbrev pub IsAt : List Token → ℕ → Expr × ℕ → Type 0
IsAt ts at found = (at ≤ found.1) × (found.1 ≤ length ts) × SpellsExpr (slice_range ts at found.1) found.0

-- The token at a place goes on with an expression.
abbrev pub goes_on_at : List Token → ℕ → Bool
goes_on_at ts end = sees (goes_on Whole) (drop end ts)
