-- Cutting a script from left to right.
use Rattle.std.specs.Prelude.{ℕ, zero, suc, ◌+◌, nat_lt, Bool, true, false, ◌&&◌, ◌||◌, if◌then◌else◌, List, [], ◌∷◌, ◌++◌, map, length, take, drop, codes, Option, Some, None}
use Rattle.std.specs.List.{prefix_len}
use Rattle.std.specs.Str.{bytes_eq}
use Rattle.ebr_base.specs.Word.{is_letter, is_word_byte, is_white, upper}
use Rattle.ebr_lexer.specs.Lexis.{is_quote, in_line, first_is, begins}
use Rattle.ebr_lexer.specs.Extents.{string_length, comment_length}
use Rattle.ebr_cut.specs.declared.span.Span.{Span}
use Rattle.ebr_cut.specs.declared.span.Lead.{Lead}
use Rattle.ebr_cut.specs.declared.span.Lead.TheVariants as lead
use Rattle.ebr_cut.specs.declared.span.Front.{Front}
use Rattle.ebr_cut.specs.Lines.{is_line_end, begins_slash, is_slash_line, fresh_behind}
use Rattle.ebr_cut.specs.Sections.{is_semicolon}

-- what has an opening and then n bytes up to its end; where it has no end, so many bytes as `without` says
abbrev pub with_opening : ℕ → ℕ → Option ℕ → ℕ
with_opening opening without None = without
with_opening opening without (Some n) = n + opening

-- how many bytes the comment in front has; 0 where none with its end stands there
abbrev pub comment_front : List ℕ → ℕ
comment_front bytes =
    if begins 45 45 bytes then prefix_len in_line (drop 2 bytes) + 2
    else if begins 47 42 bytes then with_opening 2 0 (comment_length false 0 (drop 2 bytes))
    else 0

-- how many bytes the blank in front has; 0 where none stands there
abbrev pub blank_front : List ℕ → ℕ
blank_front [] = 0
blank_front (b ∷ bs) = if is_white b then 1 else comment_front (b ∷ bs)

-- how many bytes the comment or other byte in front has
abbrev pub plain_front : List ℕ → ℕ
plain_front bytes =
    if nat_lt 0 (comment_front bytes) then comment_front bytes
    else if begins 47 42 bytes then length bytes
    else 1

-- how many bytes the bit in front has, up to the script's end where it has no end; 0 before a semicolon
abbrev pub bit_front : List ℕ → ℕ
bit_front [] = 0
bit_front (b ∷ bs) =
    if is_semicolon b then 0
    else if is_quote b then with_opening 1 (length (b ∷ bs)) (string_length false 0 bs)
    else plain_front (b ∷ bs)

-- how many bytes are passed in at most n steps, each of which passes as many as `front` says
unfoldable pub passed : (List ℕ → ℕ) → ℕ → List ℕ → ℕ
passed front zero bytes = 0
passed front (suc n) bytes = front bytes + passed front n (drop (front bytes) bytes)

-- how many bytes of blanks stand in front
abbrev pub blanks_length : List ℕ → ℕ
blanks_length bytes = passed blank_front (length bytes) bytes

-- how many bytes stand before the piece's semicolon, or the script's end
abbrev pub statement_length : List ℕ → ℕ
statement_length bytes = passed bit_front (length bytes) bytes

-- how many bytes stand before the next line that holds `/` alone; `begins` tells that a line begins
abbrev pub unit_length : Bool → List ℕ → ℕ
unit_length begins [] = 0
unit_length begins (b ∷ bs) = if begins && is_slash_line (b ∷ bs) then 0 else suc (unit_length (is_line_end b) bs)

-- whether the word in front is this one
abbrev pub is_spelled : List ℕ → List ℕ → Bool
is_spelled word bytes = first_is is_letter bytes && bytes_eq (map upper (take (prefix_len is_word_byte bytes) bytes)) word

-- how many bytes stand in front up to the end of this word; 0 where it isn't the first token
unfoldable pub word_front : List ℕ → List ℕ → ℕ
word_front word bytes =
    let blanks = blanks_length bytes in
    let rest = drop blanks bytes in
    if is_spelled word rest then blanks + prefix_len is_word_byte rest else 0

abbrev pub begins_with : List ℕ → List ℕ → Bool
begins_with word bytes = nat_lt 0 (word_front word bytes)

-- the bytes behind this word, if it is the first token, and else all
abbrev pub without : List ℕ → List ℕ → List ℕ
without word bytes = drop (word_front word bytes) bytes

unfoldable pub without_or_replace : List ℕ → List ℕ
without_or_replace bytes =
    let rest = without (codes "OR") bytes in
    if begins_with (codes "OR") bytes && begins_with (codes "REPLACE") rest then without (codes "REPLACE") rest else bytes

unfoldable pub begins_object : List ℕ → Bool
begins_object bytes =
    begins_with (codes "PROCEDURE") bytes || begins_with (codes "FUNCTION") bytes || begins_with (codes "PACKAGE") bytes || begins_with (codes "TRIGGER") bytes

-- what follows CREATE names an object that is made of PL/SQL
unfoldable pub names_object : List ℕ → Bool
names_object bytes = begins_object (without (codes "EDITIONABLE") (without_or_replace bytes))

abbrev pub begins_unit : List ℕ → Bool
begins_unit bytes = begins_with (codes "CREATE") bytes && names_object (without (codes "CREATE") bytes)

-- what the bytes begin with
unfoldable pub lead_of : List ℕ → Lead
lead_of bytes =
    if begins_with (codes "BEGIN") bytes || begins_with (codes "DECLARE") bytes then lead.Block
    else if begins_with (codes "CALL") bytes then lead.Call
    else if begins_unit bytes then lead.Unit
    else lead.Other

abbrev pub skipped_front : ℕ → Bool → Front
skipped_front n fresh = record { piece = None; length = n; fresh = fresh }

abbrev pub unit_front : Lead → ℕ → Front
unit_front l n = record { piece = Some (l, n); length = n; fresh = true }

-- a piece of n bytes, with the semicolon behind it where that isn't the script's end
abbrev pub statement_front : Lead → ℕ → ℕ → Front
statement_front l n all = record { piece = Some (l, n); length = if nat_lt n all then n + 1 else n; fresh = false }

-- the piece in front, which begins so
abbrev pub piece_front : Lead → List ℕ → Front
piece_front lead.Unit bytes = unit_front lead.Unit (unit_length false bytes)
piece_front lead.Block bytes = unit_front lead.Block (unit_length false bytes)
piece_front lead.Call bytes = statement_front lead.Call (statement_length bytes) (length bytes)
piece_front lead.Other bytes = statement_front lead.Other (statement_length bytes) (length bytes)

-- what stands in front of bytes of which the first is b
unfoldable pub front : Bool → ℕ → List ℕ → Front
front fresh b bytes =
    if nat_lt 0 (blank_front bytes) then skipped_front (blank_front bytes) (fresh_behind fresh b)
    else if fresh && begins_slash bytes then skipped_front 1 false
    else piece_front (lead_of bytes) bytes

-- the span of the piece that begins at a place, if one does
abbrev pub span_there : ℕ → Option (Lead × ℕ) → List Span
span_there at None = []
span_there at (Some p) = record { from = at; to = at + p.1; lead = p.0 } ∷ []

abbrev pub after_front : (ℕ → Bool → List ℕ → List Span) → ℕ → List ℕ → Front → List Span
after_front k at bytes f = span_there at f.piece ++ k (at + f.length) f.fresh (drop f.length bytes)

abbrev pub read_then : (ℕ → Bool → List ℕ → List Span) → ℕ → Bool → List ℕ → List Span
read_then k at fresh [] = []
read_then k at fresh (b ∷ bs) = after_front k at (b ∷ bs) (front fresh b (b ∷ bs))

-- the pieces of bytes that begin at a place, of at most so many sections
unfoldable pub read : ℕ → ℕ → Bool → List ℕ → List Span
read zero at fresh bytes = []
read (suc n) at fresh bytes = read_then (read n) at fresh bytes

-- the pieces of a script
abbrev pub cut : List ℕ → List Span
cut script = read (length script) 0 true script
