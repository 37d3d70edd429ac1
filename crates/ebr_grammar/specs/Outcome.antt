-- What a function that reads from a cursor gives.
use Rattle.std.specs.Prelude.{◌≡◌, ◌≢◌, ℕ, if◌then◌else◌, List, Result, Ok, Err, Option, Some, None}
use Rattle.ebr_base.specs.Word.{name_of}
use Rattle.ebr_lexer.specs.declared.token.Token.{Token}
use Rattle.ebr_lexer.specs.declared.token.TokenKind.{TokenKind}
use Rattle.ebr_lexer.specs.declared.token.TokenKind.TheVariants as token
use Rattle.ebr_grammar.specs.declared.tokens.ReadStop.{ReadStop}
use Rattle.ebr_grammar.specs.declared.tokens.ReadStop.TheVariants.{NoMemory}
use Rattle.ebr_grammar.specs.Kinds.{name_kinds}
use Rattle.ebr_grammar.specs.Forms.{Found, Reader, sees}
use Rattle.ebr_grammar.specs.Reading.{and_then, read_token}

-- What was found, and what is left then, unless memory ran out.
abbrev pub Reads : {A : Type 0} → Found A → Result A ReadStop → List Token → Type 0
Reads found (Ok a) new = found ≡ Some (a, new)
Reads found (Err e) new = e ≢ NoMemory → found ≡ None

abbrev pub number_in : TokenKind → Option ℕ
number_in (token.Number n) = Some n
number_in _ = None

abbrev pub text_in : TokenKind → Option (List ℕ)
text_in (token.Text content) = Some content
text_in _ = None

abbrev pub name_in : TokenKind → Option (List ℕ)
name_in (token.Word word) = name_of word
name_in _ = None

-- the number that a token stands for
unfoldable pub number_of : Token → Option ℕ
number_of t = number_in t.what

-- the content of a string
unfoldable pub content_of : Token → Option (List ℕ)
content_of t = text_in t.what

-- the name that a word spells
unfoldable pub named_by : Token → Option (List ℕ)
named_by t = name_in t.what

-- the name that stands there, or none
abbrev pub maybe_named : Reader (Option (List ℕ))
maybe_named ts = if sees name_kinds ts then and_then (read_token name_kinds named_by ts) (λ name end. Some (Some name, end)) else Some (None, ts)
