-- The grammar of declarations (Oracle Database PL/SQL Language Reference 19c: Scalar Variable Declaration, Constant
-- Declaration, Exception Declaration, EXCEPTION_INIT Pragma, AUTONOMOUS_TRANSACTION Pragma, Explicit Cursor Declaration and
-- Definition; which of their forms there are is this server's own choice):
--   n [CONSTANT] type [(:= | DEFAULT) e] ; | n EXCEPTION ; | CURSOR n IS query ;
--   PRAGMA EXCEPTION_INIT ( n , - k ) ; | PRAGMA AUTONOMOUS_TRANSACTION ;
use Rattle.std.specs.Prelude.{ℕ, List, ◌∷◌, [], Option, Some, None}
use Rattle.ebr_grammar.specs.declared.kind.Kind.{Kind}
use Rattle.ebr_grammar.specs.declared.kind.Kind.TheVariants as k
use Rattle.ebr_grammar.specs.Kinds.{name_kinds}
use Rattle.ebr_grammar.specs.Grammar.{token, word, nothing, both, made, named, outer}
use Rattle.ebr_grammar.specs.Outcome.{number_of}
use Rattle.ebr_grammar.specs.Words.{◌▸◌, ◌◂◌, ◌∣◌, name}
use Rattle.ebr_exprtree.specs.declared.expression.Expr.{Expr}
use Rattle.ebr_ast.specs.declared.query.Query.{Query}
use Rattle.ebr_ast.specs.declared.statement.Decl.{Decl}
use Rattle.ebr_ast.specs.declared.statement.Decl.TheVariants as decl
use Rattle.ebr_sqlparse.specs.Parts.{query_part}
use Rattle.ebr_simpleparse.specs.Types.{Typed}
use Rattle.ebr_simpleparse.specs.Productions.{P, a_type, expr}

-- - k ) ;
unfoldable pub exception_code : P ℕ
exception_code = k.Minus ▸ token (k.NumberLiteral ∷ []) number_of ◂ k.RightParen ◂ k.Semicolon

-- behind EXCEPTION_INIT
unfoldable pub exception_init : P Decl
exception_init = k.LeftParen ▸ both (λ n code. decl.ExceptionInit n code) (name ◂ k.Comma) exception_code

-- behind PRAGMA
unfoldable pub pragma : P Decl
pragma = k.ExceptionInit ▸ exception_init ∣ k.AutonomousTransaction ▸ word k.Semicolon decl.Autonomous

-- query ;
unfoldable pub closed_query : P Query
closed_query = outer query_part (λ q. q) ◂ k.Semicolon

-- behind CURSOR
unfoldable pub cursor : P Decl
cursor = both (λ n q. decl.Cursor n q) name (k.Is ▸ closed_query)

-- [(:= | DEFAULT) e]
unfoldable pub initial_value : P (Option Expr)
initial_value = k.Assign ▸ made Some expr ∣ k.Default ▸ made Some expr ∣ nothing None

unfoldable pub closed_value : P (Option Expr)
closed_value = initial_value ◂ k.Semicolon

abbrev pub variable_of : List ℕ → Typed → Option Expr → Decl
variable_of name ty initial = decl.Variable name ty.0 ty.1 initial

-- [CONSTANT] type [(:= | DEFAULT) e] ;
unfoldable pub variable : P (List ℕ → Decl)
variable = both (λ ty initial n. variable_of n ty initial) (named a_type (λ ty. ty)) closed_value

-- behind a name
unfoldable pub declared : P (List ℕ → Decl)
declared = k.Exception ▸ word k.Semicolon decl.Exception ∣ variable

unfoldable pub declaration : P Decl
declaration = k.Pragma ▸ pragma ∣ k.Cursor ▸ cursor ∣ both (λ n f. f n) name declared

abbrev pub declaration_begins : List Kind
declaration_begins = k.Pragma ∷ k.Cursor ∷ name_kinds
