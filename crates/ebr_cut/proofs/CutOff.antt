-- The stored text of a piece has the tokens of its text.
use Rattle.std.proofs.Common.{ℕ, ◌≡◌, ◌<◌, ◌+◌, ◌-◌, Bool, true, false, ◌&&◌, ◌||◌, List, [], ◌∷◌, ◌++◌, length, take, drop, slice_range, refl, ap, ◌∙◌, sym, arith, subst, append_assoc, Option, Some, None, Result, Ok, Err, IfOk, All, inl, inr, ◌⊎◌}
use Rattle.std.proofs.lemmas.Bool.{or_parts, or_from, false≢true}
use Rattle.std.proofs.lemmas.List.{take_at, drop_at, length-append, nil_from_length}
use Rattle.std.proofs.lemmas.List.Elements.{All-nil, All-cons}
use Rattle.ebr_base.specs.Word.{is_word_byte, is_white, is_digit}
use Rattle.ebr_base.specs.declared.clone_in.NoMemory.{NoMemory}
use Rattle.ebr_lexer.specs.declared.symbol.Symbol.{Symbol}
use Rattle.ebr_lexer.specs.declared.token.Token.{Token}
use Rattle.ebr_lexer.specs.declared.token.TokenKind.{TokenKind}
use Rattle.ebr_lexer.specs.declared.token.TokenKind.TheVariants as kind
use Rattle.ebr_lexer.specs.Symbols.{double, alone, long, first_of_two, symbol_of}
use Rattle.ebr_lexer.specs.Lexis.{is_quote, is_star, is_slash, is_other, in_line, first_is, begins, begins_comment, has_end, IsRun, Part, White, LineComment, BlockComment, Lexeme, IsLexeme, IsPart, Spelled, Stand, token_of, tokens_at, Tokens}
use Rattle.ebr_lexer.proofs.Bytes.{first_some}
use Rattle.ebr_cut.specs.declared.span.Span.{Span}
use Rattle.ebr_cut.specs.Lines.{fresh_after}
use Rattle.ebr_cut.specs.Sections as sections
use Rattle.ebr_cut.specs.Sections.{Section, Skipped, SlashLine, bytes_of, begins_whole_comment, IsSection, span_of, spans_at, Cut}
use Rattle.ebr_cut.specs.Scans.{end_of, stored, StandsInFront, BeginsInFront, KeepsTokens}

-- ---- a part stays one where less follows

first_narrow : (p : ℕ → Bool) (more tail : List ℕ) → first_is p (more ++ tail) ≡ false → first_is p more ≡ false
first_narrow p [] tail h = refl
first_narrow p (b ∷ bs) tail h = h

begins_narrow : (x y : ℕ) (bytes tail : List ℕ) → begins x y (bytes ++ tail) ≡ false → begins x y bytes ≡ false
begins_narrow x y [] tail h = refl
begins_narrow x y (a ∷ []) tail h = refl
begins_narrow x y (a ∷ b ∷ bs) tail h = h

comment_narrow : (bytes tail : List ℕ) → begins_comment (bytes ++ tail) ≡ false → begins_comment bytes ≡ false
comment_narrow bytes tail h =
    let p = or_parts _ _ h in
    or_from _ _ (begins_narrow 45 45 bytes tail p.0) (begins_narrow 47 42 bytes tail p.1)

abbrev size : Option (Symbol × ℕ) → ℕ
size None = 0
size (Some s) = s.1

-- a symbol of one byte is that of the first byte alone
one_byte : (o : Option Symbol) (r : Option (Symbol × ℕ)) (s : Symbol) → first_of_two (long 2 o) r ≡ Some (s, 1) → r ≡ Some (s, 1)
one_byte None r s h = h
one_byte (Some t) r s h = let two = ap size h in absurd (omega (arith, two))

symbol_narrow : (s : Symbol) (text more tail : List ℕ) → 0 < length text → symbol_of (text ++ more ++ tail) ≡ Some (s, length text) → symbol_of (text ++ more) ≡ Some (s, length text)
symbol_narrow s [] more tail l h = absurd (omega (arith, l))
symbol_narrow s (a ∷ []) [] [] l h = h
symbol_narrow s (a ∷ []) [] (b ∷ bs) l h = one_byte (double a b) (alone a) s h
symbol_narrow s (a ∷ []) (b ∷ bs) tail l h = h
symbol_narrow s (a ∷ b ∷ bs) more tail l h = h

run_narrow : (p : ℕ → Bool) (text more tail : List ℕ) → IsRun p text (more ++ tail) → IsRun p text more
run_narrow p text more tail h = record { all = h.all; ends = first_narrow p more tail h.ends }

lexeme_narrow : (k : TokenKind) (text more tail : List ℕ) → IsLexeme k text (more ++ tail) → IsLexeme k text more
lexeme_narrow (kind.Word w) text more tail h = (record { letter = h.0.letter; run = run_narrow is_word_byte text more tail h.0.run }, h.1, h.2)
lexeme_narrow (kind.Number n) text more tail h = (record { digit = h.0.digit; run = run_narrow is_digit text more tail h.0.run }, h.1, h.2)
lexeme_narrow (kind.Text content) text more tail h = (record { spelled = h.0.spelled; ends = first_narrow is_quote more tail h.0.ends }, h.1)
lexeme_narrow (kind.Symbol s) text more tail h = record {
  other = h.other;
  plain = comment_narrow (text ++ more) tail (ap begins_comment (append_assoc text more tail) ∙ h.plain);
  longest = symbol_narrow s text more tail (first_some is_other text h.other) (ap symbol_of (append_assoc text more tail) ∙ h.longest);
}

part_narrow : (part : Part) (text more tail : List ℕ) → IsPart part text (more ++ tail) → IsPart part text more
part_narrow White text more tail h = h
part_narrow LineComment text more tail h = record { body = h.body; spelled = h.spelled; run = run_narrow in_line h.body more tail h.run }
part_narrow BlockComment text more tail h = h
part_narrow (Lexeme k) text more tail h = lexeme_narrow k text more tail h

-- ---- the bytes up to the last token

-- Bytes that begin at a place have these tokens up to the end of the last one.
record UpTo (at : ℕ) (bytes : List ℕ) (tokens : List Token) : Type 0 where
  parts : List Spelled
  front : List ℕ
  rest : List ℕ
  split : bytes ≡ front ++ rest
  stand : Stand parts front []
  listed : tokens ≡ tokens_at at parts
  end : at + length front ≡ end_of at tokens

nothing : (at : ℕ) (bytes : List ℕ) → UpTo at bytes []
nothing at bytes = record { parts = []; front = []; rest = bytes; split = refl; stand = refl; listed = refl; end = omega arith }

-- No token stands in a part and behind it, or the last one ends where the last one behind the part does, or where
-- the part does.
none_or_end : (part : Part) (at next : ℕ) (us : List Token) → (token_of part at next ++ us ≡ []) ⊎ (end_of next us ≡ end_of at (token_of part at next ++ us))
none_or_end White at next [] = inl refl
none_or_end White at next (u ∷ us) = inr refl
none_or_end LineComment at next [] = inl refl
none_or_end LineComment at next (u ∷ us) = inr refl
none_or_end BlockComment at next [] = inl refl
none_or_end BlockComment at next (u ∷ us) = inr refl
none_or_end (Lexeme k) at next us = inr refl

one_more : (at : ℕ) (p : Spelled) (bytes more : List ℕ) (us : List Token) → bytes ≡ p.text ++ more → IsPart p.part p.text more → UpTo (at + length p.text) more us
    → end_of (at + length p.text) us ≡ end_of at (token_of p.part at (at + length p.text) ++ us) → UpTo at bytes (token_of p.part at (at + length p.text) ++ us)
one_more at p bytes more us split fits u e =
    let len = length-append p.text u.front in
    let end = u.end in
    record {
      parts = p ∷ u.parts;
      front = p.text ++ u.front;
      rest = u.rest;
      split = split ∙ ap (λ k. p.text ++ k) u.split ∙ sym (append_assoc p.text u.front u.rest);
      stand = (u.front, refl, part_narrow p.part p.text u.front u.rest (subst (IsPart p.part p.text) u.split fits), u.stand);
      listed = ap (λ k. token_of p.part at (at + length p.text) ++ k) u.listed;
      end = omega (arith, len, end, e);
    }

up_to : (ps : List Spelled) (at : ℕ) (bytes : List ℕ) → Stand ps bytes [] → UpTo at bytes (tokens_at at ps)
up_to [] at bytes s = nothing at bytes
up_to (p ∷ ps) at bytes s =
    let next = at + length p.text in
    elim (none_or_end p.part at next (tokens_at next ps)) [
      | inl none ↦ subst (UpTo at bytes) (sym none) (nothing at bytes)
      | inr e ↦ one_more at p bytes s.0 (tokens_at next ps) s.1 s.2 (up_to ps next s.0 s.3) e
    ]

front_is : (text : List ℕ) (tokens : List Token) (u : UpTo 0 text tokens) → StandsInFront tokens → u.front ≡ stored text tokens
front_is text [] u f = let end = u.end in nil_from_length u.front (omega (arith, end))
front_is text (t ∷ ts) u f =
    let end = u.end in
    let long : length u.front ≡ end_of t.to ts - 0 = omega (arith, end) in
    sym (ap (λ k. slice_range text k (end_of t.to ts)) f ∙ ap (λ (k : List ℕ). take (end_of t.to ts - 0) k) u.split ∙ take_at u.front u.rest (end_of t.to ts - 0) long)

-- the stored text has the same tokens
pub stored_tokens : (text : List ℕ) (tokens : List Token) → Tokens text tokens → StandsInFront tokens → Tokens (stored text tokens) tokens
stored_tokens text tokens t f =
    let u = subst (UpTo 0 text) (sym t.listed) (up_to t.parts 0 text t.stand) in
    subst (λ (k : List ℕ). Tokens k tokens) (front_is text tokens u f) (record { parts = u.parts; stand = u.stand; listed = u.listed })

pub stored_scans : (text : List ℕ) (tokens : List Token) → KeepsTokens text tokens (stored text tokens)
stored_scans text tokens scans f = (stored_tokens text tokens scans.0 f, scans.1)

-- ---- a piece begins with its first token

or_keep : (x y z : Bool) → (y ≡ true → z ≡ true) → (x || y) ≡ true → (x || z) ≡ true
or_keep true y z f h = refl
or_keep false y z f h = f h

has_end-more : (bs more : List ℕ) (star : Bool) → has_end star bs ≡ true → has_end star (bs ++ more) ≡ true
has_end-more [] more star h = absurd (false≢true h)
has_end-more (b ∷ bs) more star h = or_keep (star && is_slash b) (has_end (is_star b) bs) (has_end (is_star b) (bs ++ more)) (has_end-more bs more (is_star b)) h

-- the part in front is a token where no white byte and no whole comment stands there
part_in_front : (part : Part) (text behind more : List ℕ) (n : ℕ) (us : List Token) → IsPart part text behind → first_is is_white (text ++ more) ≡ false → begins_whole_comment (text ++ more) ≡ false
    → StandsInFront (token_of part 0 n ++ us)
part_in_front White text behind more n us h w c = absurd (false≢true (sym w ∙ ap (λ (k : List ℕ). first_is is_white (k ++ more)) h.1 ∙ h.2))
part_in_front LineComment text behind more n us h w c = absurd (false≢true (sym c ∙ ap (λ (k : List ℕ). begins_whole_comment (k ++ more)) h.spelled))
part_in_front BlockComment text behind more n us h w c =
    absurd (false≢true (sym c ∙ ap (λ (k : List ℕ). begins_whole_comment (k ++ more)) h.spelled ∙ has_end-more (h.body ++ 47 ∷ []) more false h.ends))
part_in_front (Lexeme k) text behind more n us h w c = refl

tokens_in_front : (ps : List Spelled) (text more : List ℕ) → Stand ps text [] → first_is is_white (text ++ more) ≡ false → begins_whole_comment (text ++ more) ≡ false → StandsInFront (tokens_at 0 ps)
tokens_in_front [] text more s w c = tt
tokens_in_front (p ∷ ps) text more s w c =
    let joined : text ++ more ≡ p.text ++ (s.0 ++ more) = ap (λ k. k ++ more) s.1 ∙ append_assoc p.text s.0 more in
    part_in_front p.part p.text s.0 (s.0 ++ more) (0 + length p.text) (tokens_at (0 + length p.text) ps) s.2 (sym (ap (first_is is_white) joined) ∙ w) (sym (ap begins_whole_comment joined) ∙ c)

section_in_front : (s : Section) (fresh : Bool) (script before more : List ℕ) (at : ℕ) (rest : List Span) → script ≡ before ++ bytes_of s ++ more → at ≡ length before → IsSection fresh s more
    → All (BeginsInFront script) rest → All (BeginsInFront script) (span_of at s ++ rest)
section_in_front (Skipped kind text) fresh script before more at rest e a h all = all
section_in_front SlashLine fresh script before more at rest e a h all = all
section_in_front (sections.Piece l text closing) fresh script before more at rest e a h all =
    let behind = closing ++ more in
    let split : script ≡ before ++ (text ++ behind) = e ∙ append_assoc before (text ++ closing) more ∙ ap (λ k. before ++ k) (append_assoc text closing more) in
    let long : length text ≡ at + length text - at = omega arith in
    let is : slice_range script at (at + length text) ≡ text = ap (λ (k : List ℕ). take (at + length text - at) k) (ap (drop at) split ∙ drop_at before (text ++ behind) at (sym a)) ∙ take_at text behind (at + length text - at) long in
    let white = sym (ap (first_is is_white) (append_assoc text closing more)) ∙ h.begins.white in
    let comment = sym (ap begins_whole_comment (append_assoc text closing more)) ∙ h.begins.comment in
    All-cons (BeginsInFront script) (record { from = at; to = at + length text; lead = l }) rest
    (λ tokens scans. let t = subst (λ (k : List ℕ). Tokens k tokens) is scans.0 in subst StandsInFront (sym t.listed) (tokens_in_front t.parts text behind t.stand white comment)) all

all_in_front : (ss : List Section) (fresh : Bool) (script before bytes : List ℕ) (at : ℕ) → script ≡ before ++ bytes → at ≡ length before → sections.Stand fresh ss bytes → All (BeginsInFront script) (spans_at at ss)
all_in_front [] fresh script before bytes at e a h = All-nil (BeginsInFront script)
all_in_front (s ∷ ss) fresh script before bytes at e a h =
    let text = bytes_of s in
    let more = h.0 in
    let next = at + length text in
    let split : script ≡ before ++ text ++ more = e ∙ ap (λ k. before ++ k) h.1 ∙ sym (append_assoc before text more) in
    let place : next ≡ length (before ++ text) = (let joined = length-append before text in omega (arith, joined, a)) in
    section_in_front s fresh script before more at (spans_at next ss) split a h.2 (all_in_front ss (fresh_after fresh text) script (before ++ text) more next split place h.3)

-- the pieces of a script begin with their first tokens
pub spans_in_front : (script : List ℕ) (spans : List Span) → Cut script spans → All (BeginsInFront script) spans
spans_in_front script spans c = subst (All (BeginsInFront script)) (sym c.listed) (all_in_front c.sections true script [] script 0 refl refl c.stand)

pub cut_in_front : (script : List ℕ) (answer : Result (List Span) NoMemory) → IfOk answer (Cut script) → IfOk answer (All (BeginsInFront script))
cut_in_front script (Ok ss) c = spans_in_front script ss c
cut_in_front script (Err e) c = tt
