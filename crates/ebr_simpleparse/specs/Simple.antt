-- The grammar of statements that hold no others, each with the `;` behind it (Oracle Database PL/SQL Language Reference
-- 19c, chapter PL/SQL Language Elements; which of their forms there are is this server's own choice):
--   NULL ; | target := e ; | n [. n] [( [e {, e}] )] ; | RETURN [e] ; | RAISE [n [. n]] ; | (EXIT | CONTINUE) [WHEN e] ;
--   SELECT list INTO target {, target} FROM .. ; | (insert | update | delete | commit | rollback | savepoint) ;
--   OPEN n ; | FETCH n INTO target {, target} ; | CLOSE n ;
--   DBMS_OUTPUT . PUT_LINE ( e ) ; | RAISE_APPLICATION_ERROR ( - k , e ) ;
-- What begins alike is written once, with what follows as a function of it.
use Rattle.std.specs.Prelude.{ℕ, List, [], ◌∷◌, ◌++◌, Option, Some, None}
use Rattle.ebr_grammar.specs.declared.kind.Kind.{Kind}
use Rattle.ebr_grammar.specs.declared.kind.Kind.TheVariants as k
use Rattle.ebr_grammar.specs.Kinds.{name_kinds}
use Rattle.ebr_grammar.specs.Grammar.{token, word, both, made, led, outer}
use Rattle.ebr_grammar.specs.Outcome.{number_of}
use Rattle.ebr_grammar.specs.Words.{◌▸◌, ◌◂◌, ◌∣◌, maybe, name}
use Rattle.ebr_exprtree.specs.declared.expression.Expr.{Expr}
use Rattle.ebr_exprtree.specs.declared.expression.Path.{Path}
use Rattle.ebr_ast.specs.declared.query.Query.{Query}
use Rattle.ebr_ast.specs.declared.query.SelectList.{SelectList}
use Rattle.ebr_ast.specs.declared.statement.Stmt.{Stmt}
use Rattle.ebr_ast.specs.declared.statement.Stmt.TheVariants as s
use Rattle.ebr_ast.specs.declared.statement.SqlStmt.{SqlStmt}
use Rattle.ebr_ast.specs.declared.statement.SqlStmt.TheVariants as sql_of
use Rattle.ebr_ast.specs.declared.statement.CursorStmt.{CursorStmt}
use Rattle.ebr_ast.specs.declared.statement.CursorStmt.TheVariants as cursor_of
use Rattle.ebr_ast.specs.declared.statement.Target.TheVariants as target_of
use Rattle.ebr_sqlparse.specs.Parts.{select_list_part, query_rest_part, insert_part, update_part, delete_part, transaction_part}
use Rattle.ebr_simpleparse.specs.declared.simple.TheConstants.{SIMPLE_WORDS}
use Rattle.ebr_simpleparse.specs.Productions.{P, expr}
use Rattle.ebr_simpleparse.specs.Paths.{path, maybe_arguments, new_column, targets}

-- ---- SQL

-- FROM and the rest of a query, behind its list
unfoldable pub from_sources : P (SelectList → Query)
from_sources = k.From ▸ outer query_rest_part (λ f. f)

-- behind INTO
unfoldable pub into_targets : P (SelectList → SqlStmt)
into_targets = both (λ targets f list. sql_of.SelectInto (f list) targets) targets from_sources

-- behind SELECT
unfoldable pub select_into : P SqlStmt
select_into = both (λ list f. f list) (outer select_list_part (λ list. list)) (k.Into ▸ into_targets)

unfoldable pub sql : P SqlStmt
sql = k.Select ▸ select_into
    ∣ led (k.Insert ∷ []) (made sql_of.Insert (outer insert_part (λ x. x)))
    ∣ led (k.Update ∷ []) (made sql_of.Update (outer update_part (λ x. x)))
    ∣ led (k.Delete ∷ []) (made sql_of.Delete (outer delete_part (λ x. x)))
    ∣ made sql_of.Transaction (outer transaction_part (λ x. x))

unfoldable pub closed_sql : P SqlStmt
closed_sql = sql ◂ k.Semicolon

abbrev pub sql_begins : List Kind
sql_begins = k.Select ∷ k.Insert ∷ k.Update ∷ k.Delete ∷ k.Commit ∷ k.Rollback ∷ k.Savepoint ∷ []

-- ---- cursors

-- behind FETCH
unfoldable pub fetch : P CursorStmt
fetch = both (λ cursor targets. cursor_of.Fetch cursor targets) name (k.Into ▸ targets)

unfoldable pub cursor : P CursorStmt
cursor = k.Open ▸ made cursor_of.Open name ∣ k.Fetch ▸ fetch ∣ k.Close ▸ made cursor_of.Close name

unfoldable pub closed_cursor : P CursorStmt
closed_cursor = cursor ◂ k.Semicolon

abbrev pub cursor_begins : List Kind
cursor_begins = k.Open ∷ k.Fetch ∷ k.Close ∷ []

-- ---- what leaves a unit or a loop, or raises

-- [e] ;
unfoldable pub returned : P (Option Expr)
returned = word k.Semicolon None ∣ made Some (expr ◂ k.Semicolon)

-- [n [. n]] ;
unfoldable pub raised : P (Option Path)
raised = word k.Semicolon None ∣ made Some (path ◂ k.Semicolon)

-- [WHEN e]
unfoldable pub condition : P (Option Expr)
condition = maybe (k.When ▸ expr)

unfoldable pub closed_condition : P (Option Expr)
closed_condition = condition ◂ k.Semicolon

unfoldable pub jump : P Stmt
jump = k.Return ▸ made s.Return returned
    ∣ k.Raise ▸ made s.Raise raised
    ∣ k.Exit ▸ made s.Exit closed_condition
    ∣ k.Continue ▸ made s.Continue closed_condition

abbrev pub jump_begins : List Kind
jump_begins = k.Return ∷ k.Raise ∷ k.Exit ∷ k.Continue ∷ []

-- ---- calls of what is built in

-- e ) ;
unfoldable pub last_argument : P Expr
last_argument = expr ◂ k.RightParen ◂ k.Semicolon

-- behind DBMS_OUTPUT
unfoldable pub put_line : P Stmt
put_line = k.Dot ▸ k.PutLine ▸ k.LeftParen ▸ made s.PutLine last_argument

-- ( - k ,
unfoldable pub error_code : P ℕ
error_code = k.LeftParen ▸ k.Minus ▸ token (k.NumberLiteral ∷ []) number_of ◂ k.Comma

-- behind RAISE_APPLICATION_ERROR
unfoldable pub raise_error : P Stmt
raise_error = both (λ code text. s.RaiseApplicationError code text) error_code last_argument

-- ---- assignments and calls

-- := e ;
unfoldable pub assigned : P Expr
assigned = k.Assign ▸ expr ◂ k.Semicolon

-- behind the colon
unfoldable pub new_assignment : P Stmt
new_assignment = both (λ n x. s.Assign (target_of.New n) x) new_column assigned

-- behind a name with its member
unfoldable pub assignment_or_call : P (Path → Stmt)
assignment_or_call = led (k.Assign ∷ []) (made (λ x p. s.Assign (target_of.Name p) x) assigned)
    ∣ made (λ arguments p. s.Call p arguments) (maybe_arguments ◂ k.Semicolon)

unfoldable pub named_statement : P Stmt
named_statement = both (λ p f. f p) path assignment_or_call

-- behind NULL
unfoldable pub null : P Stmt
null = word k.Semicolon s.Null

unfoldable pub simple : P Stmt
simple = led sql_begins (made s.Sql closed_sql)
    ∣ led cursor_begins (made s.Cursor closed_cursor)
    ∣ led jump_begins jump
    ∣ k.Null ▸ null
    ∣ k.DbmsOutput ▸ put_line
    ∣ k.RaiseApplicationError ▸ raise_error
    ∣ k.Colon ▸ new_assignment
    ∣ named_statement

-- with what such a statement begins that is no name
unfoldable pub simple_words : List Kind
simple_words = SIMPLE_WORDS

abbrev pub simple_begins : List Kind
simple_begins = simple_words ++ name_kinds
