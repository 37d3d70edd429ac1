-- The grammar of blocks and statements (Oracle Database PL/SQL Language Reference 19c: Block, Exception Handler, IF
-- Statement, Basic LOOP Statement, WHILE LOOP Statement, FOR LOOP Statement, Cursor FOR LOOP Statement; which of their forms
-- there are is this server's own choice), with n a name, [x] optional, {x} repeated:
--   block    = [DECLARE {declaration}] BEGIN statement {statement} [EXCEPTION handler {handler}] END [n] ;
--   handler  = WHEN (OTHERS | exception {OR exception}) THEN statement {statement}
--   statement = block | simple | IF e THEN statements {ELSIF e THEN statements} [ELSE statements] END IF ;
--             | [WHILE e] LOOP statements END LOOP ; | FOR n IN heading statements END LOOP ;
-- Everything that holds itself does so by the one name that there is: statements, which stand behind a word always.
use Rattle.std.specs.Prelude.{ℕ, List, [], ◌∷◌, ◌++◌, length}
use Rattle.ebr_grammar.specs.declared.kind.Kind.{Kind}
use Rattle.ebr_grammar.specs.declared.kind.Kind.TheVariants as k
use Rattle.ebr_grammar.specs.Kinds.{name_kinds}
use Rattle.ebr_grammar.specs.Forms.{Form, Reader}
use Rattle.ebr_grammar.specs.Grammar.{Production, nothing, both, many, made, led, named, outer, Spells, SpellsAny}
use Rattle.ebr_grammar.specs.Reading.{Hints, reads, reads_within}
use Rattle.ebr_grammar.specs.Words.{mark, ◌▸◌, ◌∣◌, maybe, all, name}
use Rattle.ebr_exprtree.specs.declared.expression.Expr.{Expr}
use Rattle.ebr_ast.specs.declared.statement.Block.{Block, roll-Block}
use Rattle.ebr_ast.specs.declared.statement.Branch.{Branch, roll-Branch}
use Rattle.ebr_ast.specs.declared.statement.Caught.{Caught}
use Rattle.ebr_ast.specs.declared.statement.Decl.{Decl}
use Rattle.ebr_ast.specs.declared.statement.Handler.{Handler, roll-Handler}
use Rattle.ebr_ast.specs.declared.statement.Stmt.{Stmt}
use Rattle.ebr_ast.specs.declared.statement.Stmt.TheVariants as s
use Rattle.ebr_exprparse.specs.Parts.{expr}
use Rattle.ebr_simpleparse.specs.Simple.{simple_words}
use Rattle.ebr_simpleparse.specs.declared.headings.Heading.{Heading}
use Rattle.ebr_simpleparse.specs.declared.headings.Heading.TheVariants as heading
use Rattle.ebr_simpleparse.specs.Parts.{declaration_part, simple_part, heading_part, caught_part}
use Rattle.ebr_stmtparse.specs.declared.grammar.Initial.{Initial}
use Rattle.ebr_stmtparse.specs.declared.grammar.TheConstants.{COMPOUND_WORDS}

-- ---- trees

abbrev pub block_of : List Decl → Initial → Block
block_of declarations initial = roll-Block (record { declarations = declarations; statements = initial.statements; handlers = initial.handlers })

abbrev pub initial_of : List Stmt → List Handler → Initial
initial_of statements handlers = record { statements = statements; handlers = handlers }

abbrev pub handler_of : Caught → List Stmt → Handler
handler_of caught statements = roll-Handler (record { caught = caught; statements = statements })

abbrev pub branch_of : Expr → List Stmt → Branch
branch_of condition statements = roll-Branch (record { condition = condition; statements = statements })

-- the loop with a heading
abbrev pub loop_of : List ℕ → Heading → List Stmt → Stmt
loop_of n (heading.Range reversed low high) body = s.ForRange (record { name = n; reversed = reversed; low = low; high = high }) body
loop_of n (heading.Rows from) body = s.ForRows (record { «record» = n; from = from }) body

-- ---- productions

pub data Nested : Type 0 where
  some_statements : Nested

abbrev pub P : Type 0 → Type 1
P C = Production Nested (λ _. List Stmt) C

-- statement {statement}
unfoldable pub body_statements : P (List Stmt)
body_statements = named some_statements (λ found. found)

-- END LOOP ;
unfoldable pub end_loop : P (Unit {0})
end_loop = k.End ▸ k.Loop ▸ mark k.Semicolon

-- behind LOOP
unfoldable pub loop_body : P (List Stmt)
loop_body = both (λ found _. found) body_statements end_loop

-- behind WHILE
unfoldable pub while_loop : P Stmt
while_loop = both (λ x body. s.While x body) expr (k.Loop ▸ loop_body)

-- behind IN
unfoldable pub headed_loop : P (List ℕ → Stmt)
headed_loop = both (λ heading body n. loop_of n heading body) (outer heading_part (λ h. h)) loop_body

-- behind FOR
unfoldable pub for_loop : P Stmt
for_loop = both (λ n f. f n) name (k.In ▸ headed_loop)

-- e THEN statements
unfoldable pub branch : P Branch
branch = both branch_of expr (k.Then ▸ body_statements)

-- {ELSIF e THEN statements}, behind the first
unfoldable pub more_branches : P (Branch → List Branch)
more_branches = many (λ found first. first ∷ found) (k.Elsif ▸ branch)

unfoldable pub branches : P (List Branch)
branches = both (λ first f. f first) branch more_branches

-- [ELSE statements]
unfoldable pub otherwise : P (List Stmt)
otherwise = k.Else ▸ body_statements ∣ nothing []

-- END IF ;
unfoldable pub end_if : P (Unit {0})
end_if = k.End ▸ k.If ▸ mark k.Semicolon

unfoldable pub closed_otherwise : P (List Stmt)
closed_otherwise = both (λ found _. found) otherwise end_if

-- behind IF
unfoldable pub choice : P Stmt
choice = both (λ branches otherwise. s.If branches otherwise) branches closed_otherwise

-- ---- blocks

unfoldable pub declarations : P (List Decl)
declarations = all (outer declaration_part (λ d. d))

-- behind WHEN
unfoldable pub handler : P Handler
handler = both handler_of (outer caught_part (λ c. c)) (k.Then ▸ body_statements)

unfoldable pub more_handlers : P (Handler → List Handler)
more_handlers = many (λ found first. first ∷ found) (k.When ▸ handler)

-- behind EXCEPTION
unfoldable pub some_handlers : P (List Handler)
some_handlers = both (λ first f. f first) (k.When ▸ handler) more_handlers

-- [EXCEPTION handler {handler}]
unfoldable pub handlers : P (List Handler)
handlers = k.Exception ▸ some_handlers ∣ nothing []

-- BEGIN statements [EXCEPTION handler {handler}]
unfoldable pub initial : P Initial
initial = k.Begin ▸ both initial_of body_statements handlers

-- END [n] ; : the name leaves nothing
unfoldable pub block_end : P (Unit {0})
block_end = k.End ▸ both (λ _ x. x) (maybe name) (mark k.Semicolon)

-- from BEGIN on
unfoldable pub block_rest : P (List Decl → Block)
block_rest = both (λ initial _ declarations. block_of declarations initial) initial block_end

-- {declaration} BEGIN statements [EXCEPTION handler {handler}] END [n] ;
unfoldable pub body : P Block
body = both (λ declarations f. f declarations) declarations block_rest

-- [DECLARE {declaration}] BEGIN statements [EXCEPTION handler {handler}] END [n] ;
unfoldable pub block : P Block
block = k.Declare ▸ body ∣ made (λ f. f []) block_rest

-- ---- statements

abbrev pub block_begins : List Kind
block_begins = k.Declare ∷ k.Begin ∷ []

unfoldable pub nested_block : P Stmt
nested_block = made s.Block block

unfoldable pub statement : P Stmt
statement = k.If ▸ choice
    ∣ k.Loop ▸ made s.Loop loop_body
    ∣ k.While ▸ while_loop
    ∣ k.For ▸ for_loop
    ∣ led block_begins nested_block
    ∣ outer simple_part (λ x. x)

-- with what a statement begins that is no name
unfoldable pub statement_words : List Kind
statement_words = COMPOUND_WORDS ++ simple_words

unfoldable pub statement_begins : List Kind
statement_begins = statement_words ++ name_kinds

-- behind the first statement
unfoldable pub more_statements : P (Stmt → List Stmt)
more_statements = many (λ found first. first ∷ found) (led statement_begins statement)

unfoldable pub statements : P (List Stmt)
statements = both (λ first f. f first) statement more_statements

unfoldable pub grammar : (n : Nested) → P (List Stmt)
grammar some_statements = statements

unfoldable pub hints : Hints Nested
hints = record { begins = λ _. statement_begins; goes_on = λ _. statement_begins }

-- ---- what is read, and what is spelled

-- what reading by a production gives, with statements nested to a depth
abbrev pub reads_at : ℕ → {C : Type 0} → P C → Reader C
reads_at n g = reads hints (reads_within hints grammar n) g

-- The tokens spell the tree by the production.
abbrev pub SpelledBy : {C : Type 0} → P C → Form C
SpelledBy g = Spells (SpellsAny grammar) g

-- What reading by a production gives, to as much depth as there are tokens.
abbrev pub reads_by : {C : Type 0} → P C → Reader C
reads_by g ts = reads_at (length ts) g ts

-- The reading of a body, from its declarations on.
unfoldable pub body_reader : Reader Block
body_reader ts = reads_by body ts

-- The reading of a block.
unfoldable pub block_reader : Reader Block
block_reader ts = reads_by block ts

-- The reading of statements with their handlers, from BEGIN on.
unfoldable pub initial_reader : Reader Initial
initial_reader ts = reads_by initial ts
