-- Each part of the lexis, and each thing that is wrong, is read in front.
use Rattle.std.proofs.Common.{ℕ, suc, ◌≡◌, ◌<◌, ◌+◌, true, false, cond, List, [], ◌∷◌, ◌++◌, length, drop, refl, ap, ◌∙◌, sym, arith, subst, Option, Some, None, Result, Ok, Err, append_assoc}
use Rattle.std.proofs.lemmas.Bool.{false≢true, or_parts, cond-true, cond-false, le-leb, lt-leb}
use Rattle.std.proofs.lemmas.List.{length-append}
use Rattle.ebr_base.specs.Word.{is_letter, is_white, is_digit}
use Rattle.ebr_base.specs.declared.code.Code.{Code}
use Rattle.ebr_base.specs.declared.code.Code.TheVariants.{Ebr}
use Rattle.ebr_lexer.specs.declared.token.TokenKind.{TokenKind}
use Rattle.ebr_lexer.specs.declared.token.TokenKind.TheVariants as kind
use Rattle.ebr_lexer.specs.declared.token.Front.{Front}
use Rattle.ebr_lexer.specs.Symbols.{symbol_of}
use Rattle.ebr_lexer.specs.Lexis.{first_is, is_other, in_line, begins, begins_comment, IsRun, IsString, doubled, Part, White, LineComment, BlockComment, Lexeme, IsLexeme, IsPart, token_of, Wrong, OtherByte, OpenString, OpenComment, LongNumber, LongWord, LongString, code_of, IsWrong}
use Rattle.ebr_lexer.specs.Reading.{blank, lexeme, word_front, number_front, content_front, text_of, comment_of, comment_front, line_front, symbol_found, symbol_front, token_there}
use Rattle.ebr_lexer.proofs.Runs.{prefix_whole}
use Rattle.ebr_lexer.proofs.Bytes.{first_some, first_append}
use Rattle.ebr_lexer.proofs.Strings.{string_none, comment_found, comment_none}
use Rattle.ebr_lexer.proofs.Fronts.{front_of, first_byte, front-white, front-word, front-number, front-text, front-other, word_front-is, word_front-long, number_front-is, number_front-long, text_front-is}

abbrev what_of : Part → Option TokenKind
what_of (Lexeme k) = Some k
what_of part = None

-- what is read where a part stands in front
abbrev pub part_front : Part → List ℕ → Front
part_front part text = record { what = what_of part; length = length text }

pub part_same : (part : Part) (text : List ℕ) (from to : ℕ) → token_there (part_front part text).what from to ≡ token_of part from to
part_same White text from to = refl
part_same LineComment text from to = refl
part_same BlockComment text from to = refl
part_same (Lexeme k) text from to = refl

-- The bytes are read so, and there are some.
pub record Reads (bytes : List ℕ) (r : Result Front Code) : Type 0 where
  pub some : 0 < length bytes
  pub same : front_of bytes ≡ r

some_append : (text more : List ℕ) → 0 < length text → 0 < length (text ++ more)
some_append text more l = let e = length-append text more in omega (arith, e, l)

letter_reads : (text more : List ℕ) (r : Result Front Code) → first_is is_letter text ≡ true → word_front (text ++ more) ≡ r → Reads (text ++ more) r
letter_reads text more r h e = record {
  some = some_append text more (first_some is_letter text h);
  same = front-word (first_byte (text ++ more)) (text ++ more) (first_append is_letter text more h) ∙ e;
}

digit_reads : (text more : List ℕ) (r : Result Front Code) → first_is is_digit text ≡ true → number_front (text ++ more) ≡ r → Reads (text ++ more) r
digit_reads text more r h e = record {
  some = some_append text more (first_some is_digit text h);
  same = front-number (first_byte (text ++ more)) (text ++ more) (first_append is_digit text more h) ∙ e;
}

-- a string is read, or its content is too long
string_reads : (content text more : List ℕ) (r : Result Front Code) → IsString content text more → content_front content (length text) ≡ r → Reads (text ++ more) r
string_reads content text more r w e =
    let d = doubled content in
    let whole : text ++ more ≡ 39 ∷ d ++ 39 ∷ more = ap (λ k. k ++ more) w.spelled ∙ ap (λ k. 39 ∷ k) (append_assoc d (39 ∷ []) more) in
    let len : length text ≡ length d + 2 = ap length w.spelled ∙ (let l = length-append d (39 ∷ []) in omega (arith, l)) in
    subst (λ (k : List ℕ). Reads k r) (sym whole)
    (record { some = omega arith; same = front-text (39 ∷ d ++ 39 ∷ more) ∙ text_front-is content more w.ends ∙ ap (content_front content) (sym len) ∙ e })

symbol_reads : (bytes : List ℕ) (r : Result Front Code) → first_is is_other bytes ≡ true → begins_comment bytes ≡ false → symbol_found (symbol_of bytes) ≡ r → Reads bytes r
symbol_reads [] r o c e = absurd (false≢true o)
symbol_reads (b ∷ bs) r o c e =
    let bytes = b ∷ bs in
    let line = begins 45 45 bytes in
    let block = begins 47 42 bytes in
    let p = or_parts line block c in
    let inner = cond block (comment_front (drop 2 bytes)) (symbol_front bytes) in
    record { some = omega arith; same = front-other b bytes o ∙ cond-false line (line_front (drop 2 bytes)) inner p.0 ∙ cond-false block _ _ p.1 ∙ e }

dash-other : is_other 45 ≡ true
unfolding is_white is_letter
dash-other = refl

slash-other : is_other 47 ≡ true
unfolding is_white is_letter
slash-other = refl

line_reads : (body more : List ℕ) → IsRun in_line body more → Reads (45 ∷ 45 ∷ body ++ more) (Ok (blank (length body + 2)))
line_reads body more w = record {
  some = omega arith;
  same = front-other 45 (45 ∷ 45 ∷ body ++ more) dash-other ∙ ap (λ n. Ok (blank (n + 2))) (prefix_whole in_line body more w.all w.ends);
}

comment_reads : (rest : List ℕ) (r : Result Front Code) → comment_front rest ≡ r → Reads (47 ∷ 42 ∷ rest) r
comment_reads rest r e = record { some = omega arith; same = front-other 47 (47 ∷ 42 ∷ rest) slash-other ∙ e }

other_append : (text more : List ℕ) → first_is is_other text ≡ true → first_is is_other (text ++ more) ≡ true
other_append [] more h = absurd (false≢true h)
other_append (b ∷ bs) more h = h

lexeme_reads : (k : TokenKind) (text more : List ℕ) → IsLexeme k text more → Reads (text ++ more) (Ok (lexeme k (length text)))
lexeme_reads (kind.Word w) text more h =
    letter_reads text more _ h.0.letter (word_front-is text more h.0 h.1 ∙ ap (λ k. Ok (lexeme (kind.Word k) (length text))) (sym h.2))
lexeme_reads (kind.Number n) text more h =
    digit_reads text more _ h.0.digit (number_front-is text more h.0 h.1 ∙ ap (λ k. Ok (lexeme (kind.Number k) (length text))) (sym h.2))
lexeme_reads (kind.Text content) text more h = string_reads content text more _ h.0 (cond-true _ _ _ (le-leb (length content) 32767 h.1))
lexeme_reads (kind.Symbol s) text more h =
    symbol_reads (text ++ more) _ (other_append text more h.other) h.plain (ap symbol_found h.longest)

-- a part is read where it stands in front
pub part_reads : (part : Part) (text more : List ℕ) → IsPart part text more → Reads (text ++ more) (Ok (part_front part text))
part_reads White text more h =
    subst (λ (k : List ℕ). Reads (k ++ more) (Ok (blank (length k)))) (sym h.1) (record { some = omega arith; same = front-white h.0 (h.0 ∷ more) h.2 })
part_reads LineComment text more h =
    let two : length h.body + 2 ≡ suc (suc (length h.body)) = omega arith in
    subst (λ (k : List ℕ). Reads (k ++ more) (Ok (blank (length k)))) (sym h.spelled) (subst (λ n. Reads (45 ∷ 45 ∷ h.body ++ more) (Ok (blank n))) two (line_reads h.body more h.run))
part_reads BlockComment text more h =
    let inner = length-append h.body (47 ∷ []) in
    let spelled = ap length h.spelled in
    let len : 0 + length h.body + 1 + 2 ≡ length text = omega (arith, inner, spelled) in
    subst (λ (k : List ℕ). Reads k (Ok (blank (length text)))) (sym (ap (λ k. k ++ more) h.spelled ∙ ap (λ k. 47 ∷ 42 ∷ k) (append_assoc h.body (47 ∷ []) more)))
    (comment_reads (h.body ++ 47 ∷ more) _ (ap comment_of (comment_found h.body more false 0 h.none h.ends) ∙ ap (λ n. Ok (blank n)) len))
part_reads (Lexeme k) text more h = lexeme_reads k text more h

-- what is wrong is told where it stands in front
pub wrong_reads : (wrong : Wrong) (bytes : List ℕ) → IsWrong wrong bytes → Reads bytes (Err (code_of wrong))
wrong_reads OtherByte bytes h = symbol_reads bytes _ h.other h.plain (ap symbol_found h.none)
wrong_reads OpenString bytes h =
    subst (λ (k : List ℕ). Reads k (Err (Ebr 21))) (sym h.1)
    (record { some = omega arith; same = front-text (39 ∷ doubled h.0) ∙ ap (text_of (doubled h.0)) (string_none h.0 0) })
wrong_reads OpenComment bytes h = subst (λ (k : List ℕ). Reads k (Err (Ebr 21))) (sym h.1) (comment_reads h.0 _ (ap comment_of (comment_none h.0 false 0 h.2)))
wrong_reads LongNumber bytes h = subst (λ (k : List ℕ). Reads k (Err (Ebr 22))) (sym h.2) (digit_reads h.0 h.1 _ h.3.digit (number_front-long h.0 h.1 h.3 h.4))
wrong_reads LongWord bytes h = subst (λ (k : List ℕ). Reads k (Err (Ebr 23))) (sym h.2) (letter_reads h.0 h.1 _ h.3.letter (word_front-long h.0 h.1 h.3 h.4))
wrong_reads LongString bytes h =
    subst (λ (k : List ℕ). Reads k (Err (Ebr 24))) (sym h.3) (string_reads h.0 h.1 h.2 _ h.4 (cond-false _ _ _ (lt-leb (length h.0) 32767 h.5)))

lexeme_some : (k : TokenKind) (text more : List ℕ) → IsLexeme k text more → 0 < length text
lexeme_some (kind.Word w) text more h = first_some is_letter text h.0.letter
lexeme_some (kind.Number n) text more h = first_some is_digit text h.0.digit
lexeme_some (kind.Text content) text more h = let l = ap length h.0.spelled in omega (arith, l)
lexeme_some (kind.Symbol s) text more h = first_some is_other text h.other

-- no part is empty
pub part_some : (part : Part) (text more : List ℕ) → IsPart part text more → 0 < length text
part_some White text more h = let l = ap length h.1 in omega (arith, l)
part_some LineComment text more h = let l = ap length h.spelled in omega (arith, l)
part_some BlockComment text more h = let l = ap length h.spelled in omega (arith, l)
part_some (Lexeme k) text more h = lexeme_some k text more h
