-- What reading gives in front of bytes at a place.
use Rattle.std.specs.Prelude.{◌≡◌, ℕ, Result, Ok, Err}
use Rattle.ebr_base.specs.declared.code.Code.{Code}
use Rattle.ebr_lexer.specs.declared.token.Front.{Front}
use Rattle.ebr_lexer.specs.declared.token.LexStop.{LexStop}
use Rattle.ebr_lexer.specs.declared.token.LexStop.TheVariants as lex

-- What a function returned is what reading gives in front of bytes at a place, unless memory ran out.
abbrev pub Places : ℕ → Result Front LexStop → Result Front Code → Type 0
Places at (Ok f) read = read ≡ Ok f
Places at (Err lex.NoMemory) read = Unit {0}
Places at (Err (lex.Fault there code)) read = (there ≡ at) × (read ≡ Err code)
