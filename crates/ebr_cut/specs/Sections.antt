-- How a script is cut into pieces (own).
use Rattle.std.specs.Prelude.{◌≡◌, ℕ, ◌+◌, ◌≤◌, ◌<◌, Bool, true, false, not, ◌&&◌, ◌||◌, ◌==◌, ◌⊎◌, List, [], ◌∷◌, ◌++◌, length, drop}
use Rattle.std.specs.List.{Contains}
use Rattle.ebr_base.specs.Word.{is_white}
use Rattle.ebr_lexer.specs.Lexis.{is_quote, first_is, begins, begins_comment, has_end, IsWhite, IsLineComment, IsBlockComment, IsString, IsWrong, OpenString, OpenComment}
use Rattle.ebr_cut.specs.declared.span.Span.{Span}
use Rattle.ebr_cut.specs.declared.span.Lead.{Lead}
use Rattle.ebr_cut.specs.declared.span.Lead.TheVariants as lead
use Rattle.ebr_cut.specs.Lines.{rest_is_white, begins_slash, is_slash_line, has_slash_line, fresh_after}
use Rattle.ebr_cut.specs.Heads.{Leads}

abbrev pub is_semicolon : ℕ → Bool
is_semicolon b = b == 59

-- what is skipped before a piece, beside lines with `/`
pub data Blank : Type 0 where
  White : Blank
  LineComment : Blank
  BlockComment : Blank

-- The text is such a blank, where `more` follows.
abbrev pub IsBlank : Blank → List ℕ → List ℕ → Type 0
IsBlank White text more = IsWhite text
IsBlank LineComment text more = IsLineComment text more
IsBlank BlockComment text more = IsBlockComment text

-- a comment with its end stands in front
abbrev pub begins_whole_comment : List ℕ → Bool
begins_whole_comment bytes = begins 45 45 bytes || begins 47 42 bytes && has_end false (drop 2 bytes)

-- A piece begins where something stands that isn't skipped; `fresh` tells that only white bytes have come since the
-- line began.
pub record Begins (fresh : Bool) (bytes : List ℕ) : Type 0 where
  pub white : first_is is_white bytes ≡ false
  pub comment : begins_whole_comment bytes ≡ false
  pub slash : (fresh && begins_slash bytes) ≡ false

-- what a piece that is no unit consists of
pub data Bit : Type 0 where
  Quoted : List ℕ → Bit
  Line : Bit
  Block : Bit
  Byte : Bit

-- a byte that is no semicolon and no quote
abbrev pub is_plain : ℕ → Bool
is_plain b = not (is_semicolon b || is_quote b)

-- a plain byte that begins no comment
pub record IsByte (text more : List ℕ) : Type 0 where
  pub byte : ℕ
  pub spelled : text ≡ byte ∷ []
  pub plain : is_plain byte ≡ true
  pub none : begins_comment (text ++ more) ≡ false

-- The text is a string, a comment or another byte, where `more` follows.
abbrev pub IsBit : Bit → List ℕ → List ℕ → Type 0
IsBit (Quoted content) text more = IsString content text more
IsBit Line text more = IsLineComment text more
IsBit Block text more = IsBlockComment text
IsBit Byte text more = IsByte text more

-- The bytes are such bits, one after the other, and then `rest`.
abbrev pub Bits : List (List ℕ) → List ℕ → List ℕ → Type 0
Bits [] bytes rest = bytes ≡ rest
Bits (text ∷ texts) bytes rest = (bit : Bit) × (more : List ℕ) × (bytes ≡ text ++ more) × IsBit bit text more × Bits texts more rest

-- where a piece that is no unit ends
pub data StatementEnd : Type 0 where
  AtSemicolon : StatementEnd
  AtScriptEnd : StatementEnd
  Unterminated : StatementEnd

-- Behind the bits of a piece comes its semicolon, or the script's end, or a string or comment that has no end and
-- runs to the script's end.
abbrev pub EndsBy : StatementEnd → List ℕ → List ℕ → List ℕ → Type 0
EndsBy AtSemicolon tail closing more = (tail ≡ []) × (closing ≡ 59 ∷ [])
EndsBy AtScriptEnd tail closing more = (tail ≡ []) × (closing ≡ []) × (more ≡ [])
EndsBy Unterminated tail closing more = (IsWrong OpenString tail ⊎ IsWrong OpenComment tail) × (closing ≡ []) × (more ≡ [])

-- The text goes up to the first semicolon outside strings and comments, which closes it, or to the script's end.
pub record EndsAsStatement (text closing more : List ℕ) : Type 0 where
  pub bits : List (List ℕ)
  pub tail : List ℕ
  pub stand : Bits bits (text ++ closing ++ more) (tail ++ closing ++ more)
  pub how : StatementEnd
  pub ends : EndsBy how tail closing more

-- The text ends with a line's end, and the next line holds `/` alone.
pub record BeforeSlashLine (text more : List ℕ) : Type 0 where
  pub before : List ℕ
  pub spelled : text ≡ before ++ 10 ∷ []
  pub slash : is_slash_line more ≡ true

-- The text goes up to the next line that holds `/` alone, wherever that line stands, or to the script's end.
pub record EndsAsUnit (text closing more : List ℕ) : Type 0 where
  pub whole : closing ≡ []
  pub none : has_slash_line text ≡ false
  pub ends : BeforeSlashLine text more ⊎ (more ≡ [])

-- A piece that begins so ends there.
abbrev pub Ends : Lead → List ℕ → List ℕ → List ℕ → Type 0
Ends lead.Unit text closing more = EndsAsUnit text closing more
Ends lead.Block text closing more = EndsAsUnit text closing more
Ends lead.Call text closing more = EndsAsStatement text closing more
Ends lead.Other text closing more = EndsAsStatement text closing more

-- A piece, with what closes it. It may be empty where a semicolon closes it.
pub record IsPiece (fresh : Bool) (l : Lead) (text closing more : List ℕ) : Type 0 where
  pub some : 0 < length (text ++ closing)
  pub begins : Begins fresh (text ++ closing ++ more)
  pub leads : Leads l (text ++ closing ++ more)
  pub ends : Ends l text closing more

-- what a script consists of: what is skipped before pieces, and pieces, each with what closes it
pub data Section : Type 0 where
  Skipped : Blank → List ℕ → Section
  SlashLine : Section
  Piece : Lead → List ℕ → List ℕ → Section

-- the bytes of a section; white bytes of a line that holds `/` alone are skipped as others are
abbrev pub bytes_of : Section → List ℕ
bytes_of (Skipped blank text) = text
bytes_of SlashLine = 47 ∷ []
bytes_of (Piece l text closing) = text ++ closing

-- This is such a section, where `more` follows.
abbrev pub IsSection : Bool → Section → List ℕ → Type 0
IsSection fresh (Skipped blank text) more = IsBlank blank text more
IsSection fresh SlashLine more = (fresh ≡ true) × (rest_is_white more ≡ true)
IsSection fresh (Piece l text closing) more = IsPiece fresh l text closing more

-- The bytes are these sections, one after the other.
abbrev pub Stand : Bool → List Section → List ℕ → Type 0
Stand fresh [] bytes = bytes ≡ []
Stand fresh (s ∷ ss) bytes = (more : List ℕ) × (bytes ≡ bytes_of s ++ more) × IsSection fresh s more × Stand (fresh_after fresh (bytes_of s)) ss more

-- the span of a section that begins at a place, if it is a piece
abbrev pub span_of : ℕ → Section → List Span
span_of at (Piece l text closing) = record { from = at; to = at + length text; lead = l } ∷ []
span_of at s = []

-- the spans of the pieces among sections of which the first begins at a place
abbrev pub spans_at : ℕ → List Section → List Span
spans_at at [] = []
spans_at at (s ∷ ss) = span_of at s ++ spans_at (at + length (bytes_of s)) ss

-- The script is cut into these pieces: it consists of sections, and these are the spans of the pieces among them.
pub record Cut (script : List ℕ) (spans : List Span) : Type 0 where
  pub sections : List Section
  pub stand : Stand true sections script
  pub listed : spans ≡ spans_at 0 sections

-- a span that stands within the script
abbrev pub LiesWithin : List ℕ → Span → Type 0
LiesWithin script s = (s.from ≤ s.to) × (s.to ≤ length script)

abbrev pub Precedes : Span → Span → Type 0
Precedes s t = s.to ≤ t.from

-- The laws of cuts: each script is cut, in one way.
abbrev pub EachIsCut : Type 0
EachIsCut = (script : List ℕ) → (spans : List Span) × Cut script spans

abbrev pub OneCut : Type 0
OneCut = (script : List ℕ) (spans others : List Span) → Cut script spans → Cut script others → spans ≡ others

-- what a byte of a script may be
pub data Role : Type 0 where
  OfPiece : Role
  Closing : Role
  OfBlank : Role
  OfSlashLine : Role

-- The byte at a place belongs to a piece, is the semicolon behind one, belongs to a white byte or a comment, or is a
-- `/` that stands alone in its line.
abbrev pub HasRole : Role → List ℕ → List Span → ℕ → Type 0
HasRole OfPiece script spans place = (s : Span) × Contains spans s × (s.from ≤ place) × (place < s.to)
HasRole Closing script spans place =
    (s : Span) × Contains spans s × (place ≡ s.to) × (before more : List ℕ) × (script ≡ before ++ 59 ∷ more) × (place ≡ length before)
HasRole OfBlank script spans place =
    (kind : Blank) × (before text more : List ℕ) × (script ≡ before ++ text ++ more) × IsBlank kind text more × (length before ≤ place) × (place < length before + length text)
HasRole OfSlashLine script spans place =
    (before more : List ℕ) × (script ≡ before ++ 47 ∷ more) × (place ≡ length before) × (fresh_after true before ≡ true) × (rest_is_white more ≡ true)

-- Each byte of a script is skipped, or belongs to a piece, or closes one.
abbrev pub EachByteHasARole : Type 0
EachByteHasARole = (script : List ℕ) (spans : List Span) → Cut script spans → (place : ℕ) → place < length script → (role : Role) × HasRole role script spans place
