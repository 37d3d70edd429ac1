-- Names with their members, calls, targets of assignments, and what handlers catch (Oracle Database PL/SQL Language
-- Reference 19c, Block, Assignment Statement, SELECT INTO Statement and Exception Handler; which of their forms there are
-- is this server's own choice).
use Rattle.std.specs.Prelude.{ℕ, Bool, true, false, ◌&&◌, List, [], ◌∷◌, Option, Some, None, if◌then◌else◌}
use Rattle.std.specs.Str.{bytes_eq}
use Rattle.ebr_grammar.specs.declared.kind.Kind.TheVariants as k
use Rattle.ebr_grammar.specs.Grammar.{word, both, many, made}
use Rattle.ebr_grammar.specs.Words.{◌▸◌, ◌◂◌, ◌∣◌, maybe, name}
use Rattle.ebr_exprtree.specs.declared.expression.Expr.{Expr}
use Rattle.ebr_exprtree.specs.declared.expression.Path.{Path}
use Rattle.ebr_ast.specs.declared.statement.Caught.{Caught}
use Rattle.ebr_ast.specs.declared.statement.Caught.TheVariants as caught_of
use Rattle.ebr_ast.specs.declared.statement.Target.{Target}
use Rattle.ebr_ast.specs.declared.statement.Target.TheVariants as target_of
use Rattle.ebr_simpleparse.specs.declared.paths.TheConstants.{OTHERS}
use Rattle.ebr_simpleparse.specs.Productions.{P, expr}

abbrev pub path_of : List ℕ → Option (List ℕ) → Path
path_of name member = record { name = name; member = member }

-- [. n]
unfoldable pub member : P (Option (List ℕ))
member = maybe (k.Dot ▸ name)

-- n [. n]
unfoldable pub path : P Path
path = both path_of name member

-- ---- calls

unfoldable pub more_expressions : P (Expr → List Expr)
more_expressions = many (λ found first. first ∷ found) (k.Comma ▸ expr)

-- e {, e}
unfoldable pub expressions : P (List Expr)
expressions = both (λ first f. f first) expr more_expressions

-- behind the opening parenthesis
unfoldable pub arguments : P (List Expr)
arguments = word k.RightParen [] ∣ expressions ◂ k.RightParen

-- [( [e {, e}] )]
unfoldable pub maybe_arguments : P (Option (List Expr))
maybe_arguments = maybe (k.LeftParen ▸ arguments)

-- what is called, and its arguments where parentheses stand
abbrev pub Called : Type 0
Called = Path × Option (List Expr)

-- n [. n] [( [e {, e}] )]
unfoldable pub call : P Called
call = both (λ p arguments. (p, arguments)) path maybe_arguments

-- ---- targets

-- `NEW . n`, behind the colon
unfoldable pub new_column : P (List ℕ)
new_column = k.New ▸ k.Dot ▸ name

-- n [. n] | : NEW . n
unfoldable pub target : P Target
target = k.Colon ▸ made target_of.New new_column ∣ made target_of.Name path

unfoldable pub more_targets : P (Target → List Target)
more_targets = many (λ found first. first ∷ found) (k.Comma ▸ target)

-- target {, target}
unfoldable pub targets : P (List Target)
targets = both (λ first f. f first) target more_targets

-- ---- exceptions

unfoldable pub more_exceptions : P (Path → List Path)
more_exceptions = many (λ found first. first ∷ found) (k.Or ▸ path)

-- n [. n] {OR n [. n]}
unfoldable pub exceptions : P (List Path)
exceptions = both (λ first f. f first) path more_exceptions

abbrev pub is_bare : Option (List ℕ) → Bool
is_bare None = true
is_bare (Some other) = false

-- OTHERS alone
abbrev pub is_others : List Path → Bool
is_others [] = false
is_others (p ∷ []) = is_bare p.member && bytes_eq p.name OTHERS
is_others (p ∷ q ∷ ps) = false

-- OTHERS alone is the keyword; beside others it is an exception's name (own).
unfoldable pub caught_by : List Path → Caught
caught_by paths = if is_others paths then caught_of.Others else caught_of.Named paths

unfoldable pub caught : P Caught
caught = made caught_by exceptions
