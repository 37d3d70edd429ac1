-- What readers of expressions give.
use Rattle.std.specs.Prelude.{◌≡◌, ◌≢◌, Result, Ok, Err, ℕ, List, Option, Some, None}
use Rattle.ebr_grammar.specs.declared.tokens.ReadStop.{ReadStop}
use Rattle.ebr_grammar.specs.declared.tokens.ReadStop.TheVariants.{NoMemory}
use Rattle.ebr_grammar.specs.Forms.{Found, Reader}
use Rattle.ebr_grammar.specs.Reading.{and_then, before, reads, reads_within}
use Rattle.ebr_exprtree.specs.declared.expression.Expr.{Expr}
use Rattle.ebr_exprparse.specs.Expressions.{P, grammar, hints}

-- what reading by a production gives, with expressions nested to a depth
abbrev pub reads_at : ℕ → {C : Type 0} → P C → Reader C
reads_at n g = reads hints (reads_within hints grammar n) g

-- the tree that a name gives with what was found behind it, where it gives one
abbrev pub tree_behind : List ℕ → Found (List ℕ → Option Expr) → Found Expr
tree_behind name found = and_then found (λ f end. before end (f name))

-- the tree that a function was to give, unless memory ran out
abbrev pub Decides : Option Expr → Result Expr ReadStop → Type 0
Decides found (Ok x) = found ≡ Some x
Decides found (Err stop) = stop ≢ NoMemory → found ≡ None
