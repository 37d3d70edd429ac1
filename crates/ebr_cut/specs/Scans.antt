-- The tokens of a piece or its fault, and its stored text (own).
use Rattle.std.specs.Prelude.{◌≡◌, ℕ, ◌+◌, ◌-◌, Bool, true, false, not, ◌&&◌, ◌||◌, nat_lt, if◌then◌else◌, List, [], ◌∷◌, codes, slice_range}
use Rattle.std.specs.Str.{bytes_eq}
use Rattle.ebr_base.specs.declared.code.Code.{Code}
use Rattle.ebr_base.specs.declared.code.Code.TheVariants.{Ebr}
use Rattle.ebr_lexer.specs.declared.symbol.Symbol.TheVariants.{LeftParen, RightParen}
use Rattle.ebr_lexer.specs.declared.token.Token.{Token}
use Rattle.ebr_lexer.specs.declared.token.TokenKind.{TokenKind}
use Rattle.ebr_lexer.specs.declared.token.TokenKind.TheVariants as kind
use Rattle.ebr_lexer.specs.Lexis as lexis
use Rattle.ebr_cut.specs.declared.span.Span.{Span}
use Rattle.ebr_cut.specs.declared.scanned.Scanned.{Scanned}
use Rattle.ebr_cut.specs.declared.scanned.Scanned.TheVariants as scanned

-- whether a token is this word
abbrev pub is_word : List ℕ → TokenKind → Bool
is_word word (kind.Word w) = bytes_eq w word
is_word word k = false

-- Whether a token opens a level: `(`, BEGIN, and LOOP or IF not directly after END.
abbrev pub opens : Bool → TokenKind → Bool
opens ended (kind.Symbol LeftParen) = true
opens ended k = is_word (codes "BEGIN") k || not ended && (is_word (codes "LOOP") k || is_word (codes "IF") k)

-- Whether a token closes a level: `)` and END.
abbrev pub closes : TokenKind → Bool
closes (kind.Symbol RightParen) = true
closes k = is_word (codes "END") k

-- the nesting count behind a token; `ended` tells that END stands directly before the token
abbrev pub count_behind : Bool → ℕ → TokenKind → ℕ
count_behind ended count k = if opens ended k then count + 1 else if closes k then count - 1 else count

-- whether the nesting count passes 64
abbrev pub is_too_deep : Bool → ℕ → List Token → Bool
is_too_deep ended count [] = false
is_too_deep ended count (t ∷ ts) =
    let after = count_behind ended count t.what in
    nat_lt 64 after || is_too_deep (is_word (codes "END") t.what) after ts

-- why a text has a fault: its first lexical fault, or that its tokens are nested too deep
pub data Cause : Type 0 where
  Lexical : Cause
  TooDeep : Cause

abbrev pub HasFault : Cause → List ℕ → Code → Type 0
HasFault Lexical text code = (at : ℕ) × lexis.FirstFault text at code
HasFault TooDeep text code = (tokens : List Token) × lexis.Tokens text tokens × (is_too_deep false 0 tokens ≡ true) × (code ≡ Ebr 25)

-- The text has these tokens, or this fault.
abbrev pub Scans : List ℕ → Scanned → Type 0
Scans text (scanned.Tokens tokens) = lexis.Tokens text tokens × (is_too_deep false 0 tokens ≡ false)
Scans text (scanned.Fault code) = (cause : Cause) × HasFault cause text code

-- the place behind the last token
abbrev pub end_of : ℕ → List Token → ℕ
end_of at [] = at
end_of at (t ∷ ts) = end_of t.to ts

-- the bytes from the first token to the last
abbrev pub stored : List ℕ → List Token → List ℕ
stored text [] = []
stored text (t ∷ ts) = slice_range text t.from (end_of t.to ts)

-- The first of the tokens, if there is one, stands in front of its text.
abbrev pub StandsInFront : List Token → Type 0
StandsInFront [] = Unit {0}
StandsInFront (t ∷ ts) = t.from ≡ 0

-- A piece that has tokens begins with the first of them.
abbrev pub BeginsInFront : List ℕ → Span → Type 0
BeginsInFront script s = (tokens : List Token) → Scans (slice_range script s.from s.to) (scanned.Tokens tokens) → StandsInFront tokens

-- The stored text of a piece has the tokens of the piece's text, each at its place.
abbrev pub KeepsTokens : List ℕ → List Token → List ℕ → Type 0
KeepsTokens text tokens part = Scans text (scanned.Tokens tokens) → StandsInFront tokens → Scans part (scanned.Tokens tokens)

-- what a text with these tokens is: its tokens, unless they are nested too deep
abbrev pub with_depth : List Token → Scanned
with_depth tokens = if is_too_deep false 0 tokens then scanned.Fault (Ebr 25) else scanned.Tokens tokens

abbrev pub IfTokens : (List Token → Type 0) → Scanned → Type 0
IfTokens P (scanned.Tokens tokens) = P tokens
IfTokens P (scanned.Fault code) = Unit {0}
