-- A function value that reads statements to a depth.
use Rattle.std.specs.Prelude.{ℕ, List, Result}
use Rattle.std.specs.declared.alloc.Global.{Global}
use denote.Ref.{MutBor}
use Rattle.ebr_lexer.specs.declared.token.Token.{Token}
use Rattle.ebr_grammar.specs.declared.tokens.ReadStop.{ReadStop}
use Rattle.ebr_grammar.specs.Forms.{Reader}
use Rattle.ebr_grammar.specs.Outcome.{Reads}
use Rattle.ebr_grammar.specs.Reading.{reads_within}
use Rattle.ebr_ast.specs.declared.statement.Stmt.{Stmt}
use Rattle.ebr_stmtparse.specs.Statements.{grammar, hints, some_statements}

-- The reading of statements to a depth.
abbrev pub read_within : ℕ → Reader (List Stmt)
read_within n = reads_within hints grammar n some_statements

pub record Nests (depth : ℕ) (pre : Global → MutBor (List Token) → ℕ → Type 0)
    (post : Global → MutBor (List Token) → ℕ → Result (List Stmt) ReadStop → MutBor (List Token) → Type 0) : Type 0 where
  pub callable : (alloc : Global) (old : MutBor (List Token)) → pre alloc old depth
  pub reads : (alloc : Global) (old new : MutBor (List Token)) (r : Result (List Stmt) ReadStop) → post alloc old depth r new
      → Reads (read_within depth old.now) r new.now
