-- Reading the tokens from left to right, up to the first fault.
use Rattle.std.specs.Prelude.{ℕ, zero, suc, ◌+◌, ◌-◌, nat_le, Bool, true, false, not, ◌&&◌, if◌then◌else◌, List, [], ◌∷◌, ◌++◌, map, length, take, drop, Option, Some, None, Result, Ok, Err}
use Rattle.std.specs.List.{prefix_len}
use Rattle.ebr_base.specs.Word.{is_letter, is_word_byte, is_white, is_digit, upper}
use Rattle.ebr_base.specs.declared.code.Code.{Code}
use Rattle.ebr_base.specs.declared.code.Code.TheVariants.{Ebr}
use Rattle.ebr_lexer.specs.declared.symbol.Symbol.{Symbol}
use Rattle.ebr_lexer.specs.declared.token.Token.{Token}
use Rattle.ebr_lexer.specs.declared.token.TokenKind.{TokenKind}
use Rattle.ebr_lexer.specs.declared.token.TokenKind.TheVariants as kind
use Rattle.ebr_lexer.specs.declared.token.Front.{Front}
use Rattle.ebr_lexer.specs.Symbols.{symbol_of}
use Rattle.ebr_lexer.specs.Lexis.{is_quote, in_line, begins, decimal, Fault}
use Rattle.ebr_lexer.specs.Extents.{string_length, comment_length}

abbrev pub blank : ℕ → Front
blank n = record { what = None; length = n }

abbrev pub lexeme : TokenKind → ℕ → Front
lexeme k n = record { what = Some k; length = n }

abbrev pub word_front : List ℕ → Result Front Code
word_front bytes = let n = prefix_len is_word_byte bytes in
    if nat_le n 128 then Ok (lexeme (kind.Word (map upper (take n bytes))) n) else Err (Ebr 23)

abbrev pub number_front : List ℕ → Result Front Code
number_front bytes = let n = prefix_len is_digit bytes in
    if nat_le n 18 then Ok (lexeme (kind.Number (decimal (take n bytes))) n) else Err (Ebr 22)

-- the content that is spelled so, of two quotes the second
abbrev pub undoubled : Bool → List ℕ → List ℕ
undoubled pending [] = []
undoubled pending (b ∷ bs) = if is_quote b && not pending then undoubled true bs else b ∷ undoubled false bs

abbrev pub content_front : List ℕ → ℕ → Result Front Code
content_front content n = if nat_le (length content) 32767 then Ok (lexeme (kind.Text content) n) else Err (Ebr 24)

abbrev pub text_of : List ℕ → Option ℕ → Result Front Code
text_of bytes None = Err (Ebr 21)
text_of bytes (Some n) = content_front (undoubled false (take (n - 1) bytes)) (n + 1)

-- the string whose opening quote stands just before
abbrev pub text_front : List ℕ → Result Front Code
text_front bytes = text_of bytes (string_length false 0 bytes)

abbrev pub comment_of : Option ℕ → Result Front Code
comment_of None = Err (Ebr 21)
comment_of (Some n) = Ok (blank (n + 2))

-- the comment whose `/*` stands just before
abbrev pub comment_front : List ℕ → Result Front Code
comment_front bytes = comment_of (comment_length false 0 bytes)

-- the comment whose `--` stands just before
abbrev pub line_front : List ℕ → Result Front Code
line_front bytes = Ok (blank (prefix_len in_line bytes + 2))

abbrev pub symbol_found : Option (Symbol × ℕ) → Result Front Code
symbol_found None = Err (Ebr 20)
symbol_found (Some s) = Ok (lexeme (kind.Symbol s.0) s.1)

abbrev pub symbol_front : List ℕ → Result Front Code
symbol_front bytes = symbol_found (symbol_of bytes)

abbrev pub other_front : List ℕ → Result Front Code
other_front bytes =
    if begins 45 45 bytes then line_front (drop 2 bytes)
    else if begins 47 42 bytes then comment_front (drop 2 bytes)
    else symbol_front bytes

-- what stands in front of bytes of which the first is b
unfoldable pub front : ℕ → List ℕ → Result Front Code
front b bytes =
    if is_white b then Ok (blank 1)
    else if is_letter b then word_front bytes
    else if is_digit b then number_front bytes
    else if is_quote b then text_front (drop 1 bytes)
    else other_front bytes

abbrev pub with_front : List Token → Result (List Token) Fault → Result (List Token) Fault
with_front ts (Ok us) = Ok (ts ++ us)
with_front ts (Err e) = Err e

abbrev pub token_there : Option TokenKind → ℕ → ℕ → List Token
token_there None from to = []
token_there (Some k) from to = record { from = from; to = to; what = k } ∷ []

abbrev pub after_front : (ℕ → List ℕ → Result (List Token) Fault) → ℕ → List ℕ → Result Front Code → Result (List Token) Fault
after_front k at bytes (Err code) = Err (at, code)
after_front k at bytes (Ok f) = with_front (token_there f.what at (at + f.length)) (k (at + f.length) (drop f.length bytes))

abbrev pub read_then : (ℕ → List ℕ → Result (List Token) Fault) → ℕ → List ℕ → Result (List Token) Fault
read_then k at [] = Ok []
read_then k at (b ∷ bs) = after_front k at (b ∷ bs) (front b (b ∷ bs))

-- the tokens of bytes that begin at a place, of at most so many parts
unfoldable pub read : ℕ → ℕ → List ℕ → Result (List Token) Fault
read zero at bytes = Ok []
read (suc n) at bytes = read_then (read n) at bytes
