-- A look at one token behind REVERSE.
use Rattle.std.specs.Prelude.{ℕ, ◌≤◌, Bool, List}
use Rattle.ebr_lexer.specs.declared.token.Token.{Token}
use Rattle.ebr_simpleparse.specs.declared.bounds.Look.{Look}
use Rattle.ebr_simpleparse.specs.declared.bounds.Look.TheVariants as look
use Rattle.ebr_simpleparse.specs.Looking.{closes}

-- what it answers, with the tokens behind
abbrev pub answer_of : Look → List Token → Bool
answer_of (look.Ends answer) ts = answer
answer_of (look.GoesOn depth) ts = closes depth ts

-- no more parentheses are open than this
abbrev pub IsWithin : Look → ℕ → Type 0
IsWithin (look.Ends answer) n = Unit {0}
IsWithin (look.GoesOn depth) n = depth ≤ n
