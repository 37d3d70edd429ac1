-- The stored text of a piece that creates an object is that of this object.
use Rattle.std.proofs.Common.{◌≡◌, ℕ, zero, suc, ◌+◌, ◌-◌, ◌<◌, ◌≤◌, Bool, true, false, List, [], ◌∷◌, ◌++◌, length, get_or, take, drop, Option, Some, None, Result, Ok, Err, map, slice_range, refl, sym, ap, subst, ◌∙◌, arith, All, AllPairs}
use Rattle.std.specs.Prelude.{IfOk}
use Rattle.std.proofs.lemmas.List.{get_or-map, length-map, map-append, take_all, take-take}
use Rattle.std.proofs.lemmas.List.Elements.{All-map, All-weaker}
use Rattle.std.proofs.lemmas.Grind.{take_at_read}
use Rattle.ebr_lexer.specs.declared.token.Token.{Token}
use Rattle.ebr_lexer.specs.Lexis as lexis
use Rattle.ebr_lexer.proofs.Spans.{found_within}
use Rattle.ebr_ast.specs.declared.definition.Statement.{Statement}
use Rattle.ebr_ast.specs.declared.definition.Statement.TheVariants as statement
use Rattle.ebr_ast.specs.declared.definition.Definition.{Definition}
use Rattle.ebr_cut.specs.declared.span.Lead.{Lead}
use Rattle.ebr_cut.specs.declared.span.Lead.TheVariants as lead
use Rattle.ebr_cut.specs.declared.span.Span.{Span}
use Rattle.ebr_cut.specs.declared.scanned.Scanned.{Scanned}
use Rattle.ebr_cut.specs.declared.scanned.Scanned.TheVariants as scanned
use Rattle.ebr_cut.specs.Sections as sections
use Rattle.ebr_cut.specs.Scans.{Scans, stored, StandsInFront, BeginsInFront}
use Rattle.ebr_cut.specs.Reading.{cut}
use Rattle.ebr_cut.proofs.Agreement.{cut_is}
use Rattle.ebr_cut.proofs.Places.{cut_within, cut_ordered}
use Rattle.ebr_cut.proofs.Tokens.{end_of-last, stored_front}
use Rattle.ebr_cut.proofs.CutOff.{stored_scans, spans_in_front}
use Rattle.ebr_script.specs.declared.piece.Piece.{Piece}
use Rattle.ebr_script.specs.declared.piece.PieceKind.{PieceKind}
use Rattle.ebr_script.specs.declared.piece.PieceKind.TheVariants as piece
use Rattle.ebr_script.specs.Statements.{creates_object, SpellsOneOf, statement_of}
use Rattle.ebr_script.specs.Pieces.{scanned_of, end_in, spelled_or, kind_of_scan, kind_of_text, piece_at, pieces_of, stored_definition, stored_of, text_of, CreatesObject, KeepsText, LiesWithin, Precedes, HasText, TextsOfTokens}
use Rattle.ebr_script.proofs.Scanned.{scans_so, scans_only}
use Rattle.ebr_script.proofs.Spelled.{statement_sound}
use Rattle.ebr_script.proofs.TextsOfObjects.{stored_complete}
use Rattle.ebr_script.proofs.Cuts.{one_cut}
use Rattle.ebr_script.proofs.Creations.{other_creates_none}

stored_by : (b : Bool) (ts : List Token) (text : List ℕ) (d : Definition) → creates_object ts ≡ b → SpellsOneOf b ts d → CreatesObject d → Scans text (scanned.Tokens ts) → StandsInFront ts
    → stored_definition (stored text ts) ≡ Some d
stored_by true ts text d e s c scans front = stored_complete (stored text ts) d (record { tokens = ts; scans = stored_scans text ts scans front; spells = s })
stored_by false ts text d e s c scans front = absurd (other_creates_none ts d s e c)

abbrev tree_or : Statement → PieceKind → Statement
tree_or s (piece.Tree t) = t
tree_or s (piece.Refused code) = s

tree_of : (l : Lead) (o : Option Statement) (s : Statement) → spelled_or l o ≡ piece.Tree s → o ≡ Some s
tree_of l None s e = absurd cc
tree_of l (Some t) s e = ap (λ k. Some (tree_or t k)) e

-- the place where the last token ends stands within the text
end_within : (text : List ℕ) (s : Scanned) → Scans text s → end_in s ≤ length text
end_within text (scanned.Fault code) scans = omega arith
end_within text (scanned.Tokens []) scans = omega arith
end_within text (scanned.Tokens (t ∷ ts)) scans =
    let within : All (lexis.LiesWithin text) (t ∷ ts) = found_within text (Ok (t ∷ ts)) scans.0 in
    let last = end_of-last (t ∷ ts) 0 t (omega arith) in
    let lies = within (length (t ∷ ts) - 1) t (omega arith) in
    omega (arith, last, lies)

-- a text's bytes before the end of its last token are those from its first token on, where that stands in front
before_end : (text : List ℕ) (s : Scanned) → Scans text s → ((ts : List Token) → Scans text (scanned.Tokens ts) → StandsInFront ts) → take (end_in s) text ≡ stored_of text s
before_end text (scanned.Fault code) scans front = refl
before_end text (scanned.Tokens ts) scans front = stored_front text ts (front ts scans)

short : (n : ℕ) (bytes : List ℕ) → length (take n bytes) ≤ n
short zero bytes = omega arith
short (suc n) [] = omega arith
short (suc n) (b ∷ bytes) = let rest = short n bytes in omega (arith, rest)

-- the stored text of a piece, in its bytes
part_of : (bytes : List ℕ) (from to n : ℕ) → n ≤ length (slice_range bytes from to) → slice_range bytes from (from + n) ≡ take n (slice_range bytes from to)
part_of bytes from to n l =
    let long = short (to - from) (drop from bytes) in
    let front : from + n - from ≡ n = omega arith in
    ap (λ (k : ℕ). take k (drop from bytes)) front ∙ sym (take-take n (to - from) (drop from bytes) (omega (arith, l, long)))

pub text_at : (script : List ℕ) (s : Span) (found : Scanned) → BeginsInFront script s → Scans (slice_range script s.from s.to) found → text_of script (piece_at script s) ≡ stored_of (slice_range script s.from s.to) found
unfolding text_of
text_at script s found front scans =
    let text = slice_range script s.from s.to in
    ap (λ k. slice_range script s.from (s.from + end_in k)) (scans_only text found scans) ∙ part_of script s.from s.to (end_in found) (end_within text found scans) ∙ before_end text found scans front

text_stored : (l : Lead) (text : List ℕ) (s : Scanned) (d : Definition) → Scans text s → ((ts : List Token) → Scans text (scanned.Tokens ts) → StandsInFront ts) → kind_of_scan l s ≡ piece.Tree (statement.Definition d) → CreatesObject d
    → stored_definition (stored_of text s) ≡ Some d
text_stored l text (scanned.Fault code) d scans front e c = absurd cc
text_stored l text (scanned.Tokens ts) d scans front e c =
    stored_by (creates_object ts) ts text d refl (statement_sound ts (statement.Definition d) (tree_of l (statement_of ts) (statement.Definition d) e)) c scans (front ts scans)

piece_stored : (script : List ℕ) (s : Span) → BeginsInFront script s → KeepsText script (piece_at script s)
unfolding kind_of_text
piece_stored script s front d e c =
    let text = slice_range script s.from s.to in
    ap stored_definition (text_at script s (scanned_of text) front (scans_so text)) ∙ text_stored s.lead text (scanned_of text) d (scans_so text) front e c

-- what holds of each piece that begins with its first token holds of the pieces of a script
of_all : (script : List ℕ) (P : Piece → Type 0) → ((s : Span) → BeginsInFront script s → P (piece_at script s)) → All P (pieces_of script)
unfolding pieces_of
of_all script P holds =
    All-map P (piece_at script) (cut script)
    (All-weaker (BeginsInFront script) (λ s. P (piece_at script s)) holds (cut script) (spans_in_front script (cut script) (cut_is script)))

pub pieces_stored : (script : List ℕ) → All (KeepsText script) (pieces_of script)
pieces_stored script = of_all script (KeepsText script) (piece_stored script)

pub texts_of_tokens : TextsOfTokens
texts_of_tokens script pieces c =
    subst (All (HasText script)) (sym (one_cut script pieces c)) (of_all script (HasText script) (λ s front found scans. text_at script s found front scans))

-- ---- where pieces stand

abbrev no_span : Span
no_span = record { from = 0; to = 0; lead = lead.Other }

piece_within : (script : List ℕ) (s : Span) → sections.LiesWithin script s → LiesWithin script (piece_at script s)
piece_within script s h =
    let text = slice_range script s.from s.to in
    let end = end_within text (scanned_of text) (scans_so text) in
    let long = short (s.to - s.from) (drop s.from script) in
    let ordered = h.0 in
    (omega arith, omega (arith, end, long, ordered), h.1)

pub pieces_within : (script : List ℕ) → All (LiesWithin script) (pieces_of script)
unfolding pieces_of
pieces_within script =
    All-map (LiesWithin script) (piece_at script) (cut script)
    (All-weaker (sections.LiesWithin script) (λ s. LiesWithin script (piece_at script s)) (λ s h. piece_within script s h) (cut script) (cut_within script (Ok (cut script)) (cut_is script)))

pub pieces_ordered : (script : List ℕ) → AllPairs Precedes (pieces_of script)
unfolding pieces_of
pieces_ordered script i j d l m =
    let f = piece_at script in
    let ss = cut script in
    let long : length (map f ss) ≡ length ss = length-map ss f in
    let first = get_or-map f ss i no_span d (omega (arith, long, l, m)) in
    let second = get_or-map f ss j no_span d (omega (arith, long, m)) in
    let before = cut_ordered script (Ok ss) (cut_is script) i j no_span l (omega (arith, long, m)) in
    subst (λ p. Precedes p (get_or (map f ss) j d)) (sym first) (subst (λ q. Precedes (f (get_or ss i no_span)) q) (sym second) before)

-- what holds of the pieces of a script holds of an answer that is these
pub held : {E : Type 0} (P : List Piece → Type 0) (script : List ℕ) (r : Result (List Piece) E) → IfOk r (λ ps. ps ≡ pieces_of script) → P (pieces_of script) → IfOk r P
held P script (Err e) h p = tt
held P script (Ok ps) h p = subst P (sym h) p

-- ---- one piece after the other

-- one more piece
pub piece_more : (script : List ℕ) (ss : List Span) (i : ℕ) (d : Span) (ps more : List Piece) (p : Piece) → i < length ss → ps ≡ map (piece_at script) (take i ss) → p ≡ piece_at script (get_or ss i d) → more ≡ ps ++ p ∷ []
    → more ≡ map (piece_at script) (take (i + 1) ss)
piece_more script ss i d ps more p l e is m =
    let f = piece_at script in
    m ∙ ap (λ k. k ++ p ∷ []) e ∙ ap (λ k. map f (take i ss) ++ k ∷ []) is
    ∙ sym (ap (map f) ((take_at_read ss i d l).1) ∙ map-append f (take i ss) (get_or ss i d ∷ []))

-- all pieces
pub pieces_all : (script : List ℕ) (ss : List Span) (n : ℕ) (ps : List Piece) → ss ≡ cut script → length ss ≤ n → ps ≡ map (piece_at script) (take n ss) → ps ≡ pieces_of script
unfolding pieces_of
pieces_all script ss n ps c l e = e ∙ ap (map (piece_at script)) (take_all n ss l ∙ c)
