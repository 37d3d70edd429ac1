-- A function value that reads expressions to a depth.
use Rattle.std.specs.Prelude.{ℕ, List, Result}
use Rattle.std.specs.declared.alloc.Global.{Global}
use denote.Ref.{MutBor}
use Rattle.ebr_lexer.specs.declared.token.Token.{Token}
use Rattle.ebr_grammar.specs.declared.tokens.ReadStop.{ReadStop}
use Rattle.ebr_grammar.specs.Outcome.{Reads}
use Rattle.ebr_exprparse.specs.declared.level.Level.{Level}
use Rattle.ebr_exprparse.specs.Expressions.{Read, read_within}

pub record Nests (depth : ℕ) (pre : Global → MutBor (List Token) → ℕ → Level → Type 0)
    (post : Global → MutBor (List Token) → ℕ → Level → Result Read ReadStop → MutBor (List Token) → Type 0) : Type 0 where
  pub callable : (alloc : Global) (old : MutBor (List Token)) (level : Level) → pre alloc old depth level
  pub reads : (alloc : Global) (old new : MutBor (List Token)) (level : Level) (r : Result Read ReadStop) → post alloc old depth level r new
      → Reads (read_within depth level old.now) r new.now
