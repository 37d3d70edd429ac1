-- The lexis: which tokens a text has, and what its first fault is (Oracle Database PL/SQL Language Reference
-- 19c, Lexical Units; the limits and the codes are own).
use Rattle.std.specs.Prelude.{◌≡◌, ℕ, ◌+◌, ◌-◌, ◌*◌, ◌≤◌, ◌<◌, Bool, true, false, not, ◌&&◌, ◌||◌, if◌then◌else◌, ◌==◌, List, [], ◌∷◌, ◌++◌, map, length, Some, None, Result, Ok, Err}
use Rattle.std.specs.List.{list_all, flat_map}
use Rattle.ebr_base.specs.Word.{is_letter, is_word_byte, is_white, is_digit, upper}
use Rattle.ebr_base.specs.declared.code.Code.{Code}
use Rattle.ebr_base.specs.declared.code.Code.TheVariants.{Ebr}
use Rattle.ebr_lexer.specs.declared.symbol.Symbol.{Symbol}
use Rattle.ebr_lexer.specs.declared.token.Token.{Token}
use Rattle.ebr_lexer.specs.declared.token.LexStop.{LexStop}
use Rattle.ebr_lexer.specs.declared.token.LexStop.TheVariants as lex
use Rattle.ebr_lexer.specs.declared.token.TokenKind.{TokenKind}
use Rattle.ebr_lexer.specs.declared.token.TokenKind.TheVariants as kind
use Rattle.ebr_lexer.specs.Symbols.{symbol_of}

abbrev pub is_quote : ℕ → Bool
is_quote b = b == 39

abbrev pub is_star : ℕ → Bool
is_star b = b == 42

abbrev pub is_slash : ℕ → Bool
is_slash b = b == 47

abbrev pub in_line : ℕ → Bool
in_line b = not (b == 10)

-- a byte that is not white and begins no word, number or string
abbrev pub is_other : ℕ → Bool
is_other b = not (is_white b || is_letter b || is_digit b || is_quote b)

-- whether there is a first byte, and it passes
abbrev pub first_is : (ℕ → Bool) → List ℕ → Bool
first_is p [] = false
first_is p (b ∷ bs) = p b

-- whether these two bytes stand in front
abbrev pub begins : ℕ → ℕ → List ℕ → Bool
begins x y [] = false
begins x y (a ∷ []) = false
begins x y (a ∷ b ∷ bs) = a == x && b == y

-- `--` or `/*` stands in front
abbrev pub begins_comment : List ℕ → Bool
begins_comment bytes = begins 45 45 bytes || begins 47 42 bytes

-- The text is a whole run: all of it passes, and what follows doesn't go on.
pub record IsRun (p : ℕ → Bool) (text more : List ℕ) : Type 0 where
  pub all : list_all p text ≡ true
  pub ends : first_is p more ≡ false

-- a letter, and then letters, digits, `_`, `$` and `#`, as many as there are
pub record IsWord (text more : List ℕ) : Type 0 where
  pub letter : first_is is_letter text ≡ true
  pub run : IsRun is_word_byte text more

-- digits, as many as there are, and at least one
pub record IsNumber (text more : List ℕ) : Type 0 where
  pub digit : first_is is_digit text ≡ true
  pub run : IsRun is_digit text more

-- the number that digits spell, behind those that have made n
abbrev pub decimal_after : ℕ → List ℕ → ℕ
decimal_after n [] = n
decimal_after n (b ∷ bs) = decimal_after (n * 10 + (b - 48)) bs

abbrev pub decimal : List ℕ → ℕ
decimal digits = decimal_after 0 digits

-- a byte as it is spelled in a string
abbrev pub quoted : ℕ → List ℕ
quoted b = if is_quote b then 39 ∷ 39 ∷ [] else b ∷ []

-- a string's content as it is spelled, each quote twice
abbrev pub doubled : List ℕ → List ℕ
doubled content = flat_map quoted content

-- The content in single quotes; a quote after the last one would be a doubled one.
pub record IsString (content text more : List ℕ) : Type 0 where
  pub spelled : text ≡ 39 ∷ doubled content ++ 39 ∷ []
  pub ends : first_is is_quote more ≡ false

-- The longest symbol in front, where no comment begins.
pub record IsSymbol (s : Symbol) (text more : List ℕ) : Type 0 where
  pub other : first_is is_other text ≡ true
  pub plain : begins_comment (text ++ more) ≡ false
  pub longest : symbol_of (text ++ more) ≡ Some (s, length text)

-- `--`, and what follows it in its line
pub record IsLineComment (text more : List ℕ) : Type 0 where
  pub body : List ℕ
  pub spelled : text ≡ 45 ∷ 45 ∷ body
  pub run : IsRun in_line body more

-- whether `*/` stands in the bytes; `star` tells that a `*` stands just before them
abbrev pub has_end : Bool → List ℕ → Bool
has_end star [] = false
has_end star (b ∷ bs) = star && is_slash b || has_end (is_star b) bs

-- `/*` up to the next `*/`: the body has none, and with the slash it has one
pub record IsBlockComment (text : List ℕ) : Type 0 where
  pub body : List ℕ
  pub spelled : text ≡ 47 ∷ 42 ∷ body ++ 47 ∷ []
  pub none : has_end false body ≡ false
  pub ends : has_end false (body ++ 47 ∷ []) ≡ true

-- what a text consists of
pub data Part : Type 0 where
  White : Part
  LineComment : Part
  BlockComment : Part
  Lexeme : TokenKind → Part

-- The text is such a token, where `more` follows.
abbrev pub IsLexeme : TokenKind → List ℕ → List ℕ → Type 0
IsLexeme (kind.Word w) text more = IsWord text more × (length text ≤ 128) × (w ≡ map upper text)
IsLexeme (kind.Number n) text more = IsNumber text more × (length text ≤ 18) × (n ≡ decimal text)
IsLexeme (kind.Text content) text more = IsString content text more × (length content ≤ 32767)
IsLexeme (kind.Symbol s) text more = IsSymbol s text more

-- one white byte
abbrev pub IsWhite : List ℕ → Type 0
IsWhite text = (b : ℕ) × (text ≡ b ∷ []) × (is_white b ≡ true)

-- The text is such a part, where `more` follows.
abbrev pub IsPart : Part → List ℕ → List ℕ → Type 0
IsPart White text more = IsWhite text
IsPart LineComment text more = IsLineComment text more
IsPart BlockComment text more = IsBlockComment text
IsPart (Lexeme k) text more = IsLexeme k text more

-- a part and its bytes
pub record Spelled : Type 0 where
  pub part : Part
  pub text : List ℕ

-- The bytes are these parts, one after the other, and then `rest`.
abbrev pub Stand : List Spelled → List ℕ → List ℕ → Type 0
Stand [] bytes rest = bytes ≡ rest
Stand (p ∷ ps) bytes rest = (more : List ℕ) × (bytes ≡ p.text ++ more) × IsPart p.part p.text more × Stand ps more rest

-- the token of a part that stands from one place to another
abbrev pub token_of : Part → ℕ → ℕ → List Token
token_of (Lexeme k) from to = record { from = from; to = to; what = k } ∷ []
token_of part from to = []

-- the tokens among parts of which the first begins at a place
abbrev pub tokens_at : ℕ → List Spelled → List Token
tokens_at at [] = []
tokens_at at (p ∷ ps) = token_of p.part at (at + length p.text) ++ tokens_at (at + length p.text) ps

-- The text has these tokens: it consists of parts, and these are its tokens.
pub record Tokens (bytes : List ℕ) (tokens : List Token) : Type 0 where
  pub parts : List Spelled
  pub stand : Stand parts bytes []
  pub listed : tokens ≡ tokens_at 0 parts

-- a token that is not empty and stands within the text
abbrev pub LiesWithin : List ℕ → Token → Type 0
LiesWithin bytes t = (t.from < t.to) × (t.to ≤ length bytes)

abbrev pub Precedes : Token → Token → Type 0
Precedes t u = t.to ≤ u.from

-- what can be wrong at the first byte of a token or a comment
pub data Wrong : Type 0 where
  OtherByte : Wrong
  OpenString : Wrong
  OpenComment : Wrong
  LongNumber : Wrong
  LongWord : Wrong
  LongString : Wrong

-- the code of a fault (own)
abbrev pub code_of : Wrong → Code
code_of OtherByte = Ebr 20
code_of OpenString = Ebr 21
code_of OpenComment = Ebr 21
code_of LongNumber = Ebr 22
code_of LongWord = Ebr 23
code_of LongString = Ebr 24

-- a byte that begins nothing
pub record BeginsNothing (bytes : List ℕ) : Type 0 where
  pub other : first_is is_other bytes ≡ true
  pub plain : begins_comment bytes ≡ false
  pub none : symbol_of bytes ≡ None

-- This is wrong at the first of the bytes.
abbrev pub IsWrong : Wrong → List ℕ → Type 0
IsWrong OtherByte bytes = BeginsNothing bytes
IsWrong OpenString bytes = (content : List ℕ) × (bytes ≡ 39 ∷ doubled content)
IsWrong OpenComment bytes = (body : List ℕ) × (bytes ≡ 47 ∷ 42 ∷ body) × (has_end false body ≡ false)
IsWrong LongNumber bytes = (text more : List ℕ) × (bytes ≡ text ++ more) × IsNumber text more × (18 < length text)
IsWrong LongWord bytes = (text more : List ℕ) × (bytes ≡ text ++ more) × IsWord text more × (128 < length text)
IsWrong LongString bytes = (content text more : List ℕ) × (bytes ≡ text ++ more) × IsString content text more × (32767 < length content)

-- The text's first fault: parts stand up to its place, and there something is wrong.
pub record FirstFault (bytes : List ℕ) (at : ℕ) (code : Code) : Type 0 where
  pub parts : List Spelled
  pub rest : List ℕ
  pub wrong : Wrong
  pub stand : Stand parts bytes rest
  pub fits : IsWrong wrong rest
  pub place : at + length rest ≡ length bytes
  pub has_code : code ≡ code_of wrong

-- The answer is what the text has: its tokens, or its first fault. Want of memory says nothing.
abbrev pub Found : List ℕ → Result (List Token) LexStop → Type 0
Found bytes (Ok tokens) = Tokens bytes tokens
Found bytes (Err (lex.Fault at code)) = FirstFault bytes at code
Found bytes (Err lex.NoMemory) = Unit {0}

-- the place of a fault, and its code
abbrev pub Fault : Type 0
Fault = ℕ × Code

-- The answer is these tokens, or this fault, unless memory ran out.
abbrev pub Tells : Result (List Token) LexStop → Result (List Token) Fault → Type 0
Tells (Ok ts) wanted = wanted ≡ Ok ts
Tells (Err lex.NoMemory) wanted = Unit {0}
Tells (Err (lex.Fault at code)) wanted = wanted ≡ Err (at, code)

-- The laws of tokens and first faults.
abbrev pub OneReading : Type 0
OneReading = (bytes : List ℕ) (ts us : List Token) → Tokens bytes ts → Tokens bytes us → ts ≡ us

abbrev pub OneFault : Type 0
OneFault = (bytes : List ℕ) (at there : ℕ) (code other : Code) → FirstFault bytes at code → FirstFault bytes there other → (at ≡ there) × (code ≡ other)

abbrev pub NeverBoth : Type 0
NeverBoth = (bytes : List ℕ) (ts : List Token) (at : ℕ) (code : Code) → Tokens bytes ts → FirstFault bytes at code → ⊥

-- what a text has, one of the two
abbrev pub Has : List ℕ → Result (List Token) Fault → Type 0
Has bytes (Ok tokens) = Tokens bytes tokens
Has bytes (Err fault) = FirstFault bytes fault.0 fault.1

abbrev pub TokensOrFault : Type 0
TokensOrFault = (bytes : List ℕ) → (r : Result (List Token) Fault) × Has bytes r
