-- The pieces of a script: what each spells, or the code of its first fault (own).
use Rattle.std.specs.Prelude.{◌≡◌, ◌↔◌, ℕ, ◌+◌, ◌≤◌, All, List, [], ◌∷◌, length, map, slice_range, Option, Some, None, Result, Ok, Err}
use Rattle.ebr_base.specs.declared.code.Code.{Code}
use Rattle.ebr_base.specs.declared.code.Code.TheVariants.{Ora}
use Rattle.ebr_lexer.specs.declared.token.Token.{Token}
use Rattle.ebr_lexer.specs.Lexis.{Fault}
use Rattle.ebr_lexer.specs.Reading.{read}
use Rattle.ebr_ast.specs.declared.definition.Statement.{Statement}
use Rattle.ebr_ast.specs.declared.definition.Statement.TheVariants as statement
use Rattle.ebr_ast.specs.declared.definition.Definition.{Definition}
use Rattle.ebr_ast.specs.declared.definition.Definition.TheVariants as definition
use Rattle.ebr_cut.specs.declared.span.Lead.{Lead}
use Rattle.ebr_cut.specs.declared.span.Lead.TheVariants as lead
use Rattle.ebr_cut.specs.declared.span.Span.{Span}
use Rattle.ebr_cut.specs.declared.scanned.Scanned.{Scanned}
use Rattle.ebr_cut.specs.declared.scanned.Scanned.TheVariants as scanned
use Rattle.ebr_cut.specs.Sections as sections
use Rattle.ebr_cut.specs.Reading.{cut}
use Rattle.ebr_cut.specs.Scans.{Scans, with_depth, end_of, stored}
use Rattle.ebr_plparse.specs.Units.{SpellsCreation}
use Rattle.ebr_script.specs.declared.piece.Piece.{Piece}
use Rattle.ebr_script.specs.declared.piece.PieceKind.{PieceKind}
use Rattle.ebr_script.specs.declared.piece.PieceKind.TheVariants as piece
use Rattle.ebr_script.specs.Statements.{SpellsStatement, statement_of, creation_of}

-- the code of tokens that spell nothing, by what the piece begins with
abbrev pub refusal : Lead → Code
refusal lead.Block = Ora 6550
refusal lead.Call = Ora 6550
refusal lead.Unit = Ora 900
refusal lead.Other = Ora 900

-- The tokens spell no statement.
abbrev pub SpellsNothing : List Token → Type 0
SpellsNothing tokens = (s : Statement) → SpellsStatement tokens s → ⊥

-- why a piece is refused
pub data Cause : Type 0 where
  -- a lexical fault, or too deep a nesting
  Scanning : Cause
  Unspelled : Cause

abbrev pub IsRefused : Cause → Lead → List ℕ → Code → Type 0
IsRefused Scanning l text code = Scans text (scanned.Fault code)
IsRefused Unspelled l text code = (tokens : List Token) × Scans text (scanned.Tokens tokens) × SpellsNothing tokens × (code ≡ refusal l)

-- The text of a piece, which begins so, is this: the statement that its tokens spell, or the code of its first fault.
abbrev pub Means : Lead → List ℕ → PieceKind → Type 0
Means l text (piece.Tree s) = (tokens : List Token) × Scans text (scanned.Tokens tokens) × SpellsStatement tokens s
Means l text (piece.Refused code) = (cause : Cause) × IsRefused cause l text code

-- where the last token of a text ends, counted from its beginning; 0 where it has none, or a fault
abbrev pub end_in : Scanned → ℕ
end_in (scanned.Fault code) = 0
end_in (scanned.Tokens tokens) = end_of 0 tokens

-- The text begins at the place `from`, and its last token ends at the place `end`: where it begins, if it has no token or
-- a fault.
abbrev pub EndsAt : ℕ → List ℕ → ℕ → Type 0
EndsAt from text end = (s : Scanned) × Scans text s × (end ≡ from + end_in s)

-- The piece stands where the span does, its stored text ends with its last token, and it is what its text means.
pub record IsPiece (script : List ℕ) (s : Span) (p : Piece) : Type 0 where
  pub from : p.from ≡ s.from
  pub text_end : EndsAt s.from (slice_range script s.from s.to) p.text_end
  pub to : p.to ≡ s.to
  pub means : Means s.lead (slice_range script s.from s.to) p.what

-- Each span has its piece, in order.
abbrev pub Pieces : List ℕ → List Span → List Piece → Type 0
Pieces script [] [] = Unit {0}
Pieces script (s ∷ ss) (p ∷ ps) = IsPiece script s p × Pieces script ss ps
Pieces script ss ps = ⊥

-- The script is cut into these pieces.
pub record Cut (script : List ℕ) (pieces : List Piece) : Type 0 where
  pub spans : List Span
  pub cut : sections.Cut script spans
  pub each : Pieces script spans pieces

-- a piece that stands within the script, and its stored text within it
abbrev pub LiesWithin : List ℕ → Piece → Type 0
LiesWithin script p = (p.from ≤ p.text_end) × (p.text_end ≤ p.to) × (p.to ≤ length script)

abbrev pub Precedes : Piece → Piece → Type 0
Precedes p q = p.to ≤ q.from

-- ---- stored texts

-- The text is that of an object: its tokens, which are nested no deeper than those of a piece, spell what creates it.
pub record Stores (text : List ℕ) (d : Definition) : Type 0 where
  pub tokens : List Token
  pub scans : Scans text (scanned.Tokens tokens)
  pub spells : SpellsCreation tokens d

-- ---- reading

abbrev pub scanned_as : Result (List Token) Fault → Scanned
scanned_as (Ok tokens) = with_depth tokens
scanned_as (Err fault) = scanned.Fault fault.1

-- the tokens of a text, or its first fault
unfoldable pub scanned_of : List ℕ → Scanned
scanned_of text = scanned_as (read (length text) 0 text)

abbrev pub spelled_or : Lead → Option Statement → PieceKind
spelled_or l None = piece.Refused (refusal l)
spelled_or l (Some s) = piece.Tree s

abbrev pub kind_of_scan : Lead → Scanned → PieceKind
kind_of_scan l (scanned.Fault code) = piece.Refused code
kind_of_scan l (scanned.Tokens tokens) = spelled_or l (statement_of tokens)

-- what the text of a piece is that begins so
unfoldable pub kind_of_text : Lead → List ℕ → PieceKind
kind_of_text l text = kind_of_scan l (scanned_of text)

abbrev pub piece_at : List ℕ → Span → Piece
piece_at script s =
    let text = slice_range script s.from s.to in
    record { from = s.from; text_end = s.from + end_in (scanned_of text); to = s.to; what = kind_of_text s.lead text }

-- the pieces of a script
unfoldable pub pieces_of : List ℕ → List Piece
pieces_of script = map (piece_at script) (cut script)

abbrev pub creation_in : Scanned → Option Definition
creation_in (scanned.Fault code) = None
creation_in (scanned.Tokens tokens) = creation_of tokens

-- what creates an object, by its stored text
unfoldable pub stored_definition : List ℕ → Option Definition
stored_definition text = creation_in (scanned_of text)

-- the stored text of a piece, which begins where the piece does
unfoldable pub text_of : List ℕ → Piece → List ℕ
text_of script p = slice_range script p.from p.text_end

-- The definition creates an object.
abbrev pub CreatesObject : Definition → Type 0
CreatesObject (definition.CreateObject replace unit) = Unit {0}
CreatesObject d = ⊥

-- Where the piece creates an object, its stored text is that of this object.
abbrev pub KeepsText : List ℕ → Piece → Type 0
KeepsText script p = (d : Definition) → p.what ≡ piece.Tree (statement.Definition d) → CreatesObject d → stored_definition (text_of script p) ≡ Some d

-- ---- laws

-- Each script is cut, ..
abbrev pub EachIsCut : Type 0
EachIsCut = (script : List ℕ) → Cut script (pieces_of script)

-- .. and in one way.
abbrev pub OneCut : Type 0
OneCut = (script : List ℕ) (pieces : List Piece) → Cut script pieces → pieces ≡ pieces_of script

-- A text stores the definition that is computed for it, and no other.
abbrev pub StoresComputed : Type 0
StoresComputed = (text : List ℕ) (d : Definition) → Stores text d ↔ (stored_definition text ≡ Some d)

abbrev pub OneDefinition : Type 0
OneDefinition = (text : List ℕ) (d e : Definition) → Stores text d → Stores text e → d ≡ e

-- the bytes of a text from its first token to its last; none where it has a fault
abbrev pub stored_of : List ℕ → Scanned → List ℕ
stored_of text (scanned.Fault code) = []
stored_of text (scanned.Tokens tokens) = stored text tokens

-- The stored text of the piece goes from the first token of its bytes to the last, and is empty where they have a fault.
abbrev pub HasText : List ℕ → Piece → Type 0
HasText script p = (s : Scanned) → Scans (slice_range script p.from p.to) s → text_of script p ≡ stored_of (slice_range script p.from p.to) s

-- So it is for each piece of a script.
abbrev pub TextsOfTokens : Type 0
TextsOfTokens = (script : List ℕ) (pieces : List Piece) → Cut script pieces → All (HasText script) pieces
