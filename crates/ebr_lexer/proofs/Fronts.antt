-- What `front` reads is a part of the lexis or what is wrong there, and each of them is read.
use Rattle.std.proofs.Common.{ℕ, ◌≡◌, ◌<◌, ◌≤◌, ◌-◌, ◌+◌, nat_le, Bool, true, false, List, [], ◌∷◌, ◌++◌, map, length, get_or, take, drop, refl, ap, ◌∙◌, sym, arith, subst, Option, Some, None, Result, Ok, Err, append_assoc}
use Rattle.std.proofs.lemmas.Bool.{and_parts, or_from, eqb-true, false≢true, cond-true, cond-false, cond_both, leb-true, leb-false, le-leb, lt-leb}
use Rattle.std.proofs.lemmas.List.{take-append-drop, take_at, length-append, length-take-le}
use Rattle.std.proofs.lemmas.List.Folds.{length-prefix_len}
use Rattle.std.specs.List.{prefix_len}
use Rattle.ebr_base.specs.Word.{is_letter, is_word_byte, is_white, is_digit, upper}
use Rattle.ebr_base.specs.declared.code.Code.{Code}
use Rattle.ebr_base.specs.declared.code.Code.TheVariants.{Ebr}
use Rattle.ebr_lexer.specs.declared.symbol.Symbol.{Symbol}
use Rattle.ebr_lexer.specs.declared.token.TokenKind.TheVariants as kind
use Rattle.ebr_lexer.specs.declared.token.Front.{Front}
use Rattle.ebr_lexer.specs.Symbols.{single, double, long, first_of_two, alone, symbol_of}
use Rattle.ebr_lexer.specs.Lexis.{first_is, is_quote, is_other, in_line, begins, begins_comment, IsRun, IsWord, IsNumber, IsString, decimal, doubled, Part, White, LineComment, BlockComment, Lexeme, IsPart, token_of, Wrong, OtherByte, OpenString, OpenComment, LongNumber, LongWord, LongString, code_of, IsWrong}
use Rattle.ebr_lexer.specs.Reading.{blank, lexeme, word_front, number_front, content_front, text_of, text_front, undoubled, comment_of, line_front, symbol_found, other_front, front, token_there}
use Rattle.ebr_lexer.proofs.Runs.{prefix_all, prefix_ends, prefix_some, prefix_whole, word_some}
use Rattle.ebr_lexer.proofs.Bytes.{other_plain, plain_other, letter_not_white, digit_not_white, digit_not_letter, first_take}
use Rattle.ebr_lexer.proofs.Strings.{StringAt, string_at, string_found, undoubled_doubled, CommentAt, comment_at}

-- what was read stands in front, as a part of the lexis
pub record Stands (f : Front) (bytes : List ℕ) : Type 0 where
  pub part : Part
  pub text : List ℕ
  pub more : List ℕ
  pub split : bytes ≡ text ++ more
  pub fits : IsPart part text more
  pub long : f.length ≡ length text
  pub some : 0 < length text
  pub same : (from to : ℕ) → token_there f.what from to ≡ token_of part from to

-- there is something wrong in front, and this is its code
pub record Faulty (code : Code) (bytes : List ℕ) : Type 0 where
  pub wrong : Wrong
  pub fits : IsWrong wrong bytes
  pub has_code : code ≡ code_of wrong

abbrev pub Sound : List ℕ → Result Front Code → Type 0
Sound bytes (Ok f) = Stands f bytes
Sound bytes (Err code) = Faulty code bytes

run_in_front : (p : ℕ → Bool) (bytes : List ℕ) → IsRun p (take (prefix_len p bytes) bytes) (drop (prefix_len p bytes) bytes)
run_in_front p bytes = record { all = prefix_all p bytes; ends = prefix_ends p bytes }

word_sound : (bytes : List ℕ) → first_is is_letter bytes ≡ true → Sound bytes (word_front bytes)
word_sound bytes h =
    let n = prefix_len is_word_byte bytes in
    let l : length (take n bytes) ≡ n = length-prefix_len is_word_byte bytes in
    let some : 0 < n = word_some bytes h in
    let w : IsWord (take n bytes) (drop n bytes) = record { letter = first_take is_letter bytes n some h; run = run_in_front is_word_byte bytes } in
    cond_both (nat_le n 128) _ _ (Sound bytes)
    (λ e. let few = leb-true n 128 e in record {
      part = Lexeme (kind.Word (map upper (take n bytes)));
      text = take n bytes;
      more = drop n bytes;
      split = sym (take-append-drop n bytes);
      fits = (w, omega (arith, l, few), refl);
      long = sym l;
      some = omega (arith, l, some);
      same = λ from to. refl;
    })
    (λ e. let many = leb-false n 128 e in record { wrong = LongWord; fits = (take n bytes, drop n bytes, sym (take-append-drop n bytes), w, omega (arith, l, many)); has_code = refl })

number_sound : (bytes : List ℕ) → first_is is_digit bytes ≡ true → Sound bytes (number_front bytes)
number_sound bytes h =
    let n = prefix_len is_digit bytes in
    let l : length (take n bytes) ≡ n = length-prefix_len is_digit bytes in
    let some : 0 < n = prefix_some is_digit bytes h in
    let w : IsNumber (take n bytes) (drop n bytes) = record { digit = first_take is_digit bytes n some h; run = run_in_front is_digit bytes } in
    cond_both (nat_le n 18) _ _ (Sound bytes)
    (λ e. let few = leb-true n 18 e in record {
      part = Lexeme (kind.Number (decimal (take n bytes)));
      text = take n bytes;
      more = drop n bytes;
      split = sym (take-append-drop n bytes);
      fits = (w, omega (arith, l, few), refl);
      long = sym l;
      some = omega (arith, l, some);
      same = λ from to. refl;
    })
    (λ e. let many = leb-false n 18 e in record { wrong = LongNumber; fits = (take n bytes, drop n bytes, sym (take-append-drop n bytes), w, omega (arith, l, many)); has_code = refl })

content_sound : (content spelled bytes text more : List ℕ) (n : ℕ) → spelled ≡ content → bytes ≡ text ++ more → IsString content text more → n ≡ length text → 0 < length text
    → Sound bytes (content_front spelled n)
content_sound content spelled bytes text more n c split w l some =
    subst (λ k. Sound bytes (content_front k n)) (sym c) (cond_both (nat_le (length content) 32767) _ _ (Sound bytes)
    (λ e. record { part = Lexeme (kind.Text content); text = text; more = more; split = split; fits = (w, leb-true _ _ e); long = l; some = some; same = λ from to. refl })
    (λ e. record { wrong = LongString; fits = (content, text, more, split, w, leb-false _ _ e); has_code = refl }))

text_sound : (bytes : List ℕ) (r : Option ℕ) → StringAt false 0 bytes r → Sound (39 ∷ bytes) (text_of bytes r)
text_sound bytes None s = record { wrong = OpenString; fits = (s.0, ap (λ k. 39 ∷ k) s.1); has_code = refl }
text_sound bytes (Some m) s =
    let d = doubled s.0 in
    let at : m - 1 ≡ length d = omega (arith, s.4) in
    let split : bytes ≡ (d ++ 39 ∷ []) ++ s.1 = s.2 ∙ sym (append_assoc d (39 ∷ []) s.1) in
    let raw : take (m - 1) bytes ≡ d = rw (at, s.2) (take_at d (39 ∷ s.1) (length d) refl) in
    let same : undoubled false (take (m - 1) bytes) ≡ s.0 = ap (undoubled false) raw ∙ undoubled_doubled s.0 in
    let len : length (d ++ 39 ∷ []) ≡ length d + 1 = length-append d (39 ∷ []) in
    content_sound s.0 _ (39 ∷ bytes) (39 ∷ d ++ 39 ∷ []) s.1 (m + 1) same (ap (λ k. 39 ∷ k) split) (record { spelled = refl; ends = s.3 }) (omega (arith, len, s.4)) (omega arith)

begins_is : (x y : ℕ) (bytes : List ℕ) → begins x y bytes ≡ true → bytes ≡ x ∷ y ∷ drop 2 bytes
begins_is x y [] h = absurd (false≢true h)
begins_is x y (a ∷ []) h = absurd (false≢true h)
begins_is x y (a ∷ b ∷ bs) h =
    let p = and_parts _ _ h in
    ap (λ k. k ∷ b ∷ bs) (eqb-true a x p.0) ∙ ap (λ k. x ∷ k ∷ bs) (eqb-true b y p.1)

line_sound : (bytes : List ℕ) → bytes ≡ 45 ∷ 45 ∷ drop 2 bytes → Sound bytes (line_front (drop 2 bytes))
line_sound bytes e =
    let rest = drop 2 bytes in
    let n = prefix_len in_line rest in
    let l : length (take n rest) ≡ n = length-prefix_len in_line rest in
    record {
      part = LineComment;
      text = 45 ∷ 45 ∷ take n rest;
      more = drop n rest;
      split = e ∙ ap (λ k. 45 ∷ 45 ∷ k) (sym (take-append-drop n rest));
      fits = record { body = take n rest; spelled = refl; run = run_in_front in_line rest };
      long = omega (arith, l);
      some = omega arith;
      same = λ from to. refl;
    }

comment_sound : (bytes rest : List ℕ) (r : Option ℕ) → bytes ≡ 47 ∷ 42 ∷ rest → CommentAt false 0 rest r → Sound bytes (comment_of r)
comment_sound bytes rest None e s = record { wrong = OpenComment; fits = (rest, e, s); has_code = refl }
comment_sound bytes rest (Some m) e s =
    let len : length (s.0 ++ 47 ∷ []) ≡ length s.0 + 1 = length-append s.0 (47 ∷ []) in
    record {
      part = BlockComment;
      text = 47 ∷ 42 ∷ s.0 ++ 47 ∷ [];
      more = s.1;
      split = e ∙ ap (λ k. 47 ∷ 42 ∷ k) (s.2 ∙ sym (append_assoc s.0 (47 ∷ []) s.1));
      fits = record { body = s.0; spelled = refl; none = s.3; ends = s.4 };
      long = omega (arith, len, s.5);
      some = omega arith;
      same = λ from to. refl;
    }

-- a symbol has one byte or two
abbrev Fits : Option (Symbol × ℕ) → ℕ → Type 0
Fits None n = Unit {0}
Fits (Some s) n = (0 < s.1) × (s.1 ≤ n)

fits_long : (k : ℕ) (o : Option Symbol) (n : ℕ) → 0 < k → k ≤ n → Fits (long k o) n
fits_long k None n a b = tt
fits_long k (Some s) n a b = (a, b)

fits_two : (o p : Option (Symbol × ℕ)) (n : ℕ) → Fits o n → Fits p n → Fits (first_of_two o p) n
fits_two None p n a b = b
fits_two (Some s) p n a b = a

symbol_fits : (bytes : List ℕ) → Fits (symbol_of bytes) (length bytes)
symbol_fits [] = tt
symbol_fits (a ∷ []) = fits_long 1 (single a) _ (omega arith) (omega arith)
symbol_fits (a ∷ b ∷ bs) =
    fits_two (long 2 (double a b)) (alone a) _ (fits_long 2 (double a b) _ (omega arith) (omega arith)) (fits_long 1 (single a) _ (omega arith) (omega arith))

symbol_sound : (bytes : List ℕ) (r : Option (Symbol × ℕ)) → first_is is_other bytes ≡ true → begins_comment bytes ≡ false → symbol_of bytes ≡ r → Fits r (length bytes)
    → Sound bytes (symbol_found r)
symbol_sound bytes None o c e f = record { wrong = OtherByte; fits = record { other = o; plain = c; none = e }; has_code = refl }
symbol_sound bytes (Some s) o c e f =
    let n = s.1 in
    let l : length (take n bytes) ≡ n = length-take-le n bytes f.1 in
    let whole = take-append-drop n bytes in
    record {
      part = Lexeme (kind.Symbol s.0);
      text = take n bytes;
      more = drop n bytes;
      split = sym whole;
      fits = record { other = first_take is_other bytes n f.0 o; plain = ap begins_comment whole ∙ c; longest = ap symbol_of whole ∙ e ∙ ap (λ k. Some (s.0, k)) (sym l) };
      long = sym l;
      some = omega (arith, l, f.0);
      same = λ from to. refl;
    }

other_sound : (bytes : List ℕ) → first_is is_other bytes ≡ true → Sound bytes (other_front bytes)
other_sound bytes o =
    cond_both (begins 45 45 bytes) _ _ (Sound bytes) (λ e. line_sound bytes (begins_is 45 45 bytes e))
    (λ e. cond_both (begins 47 42 bytes) _ _ (Sound bytes) (λ c. comment_sound bytes (drop 2 bytes) _ (begins_is 47 42 bytes c) (comment_at (drop 2 bytes) false 0))
    (λ c. symbol_sound bytes (symbol_of bytes) o (or_from _ _ e c) refl (symbol_fits bytes)))

-- what is read in front is so
pub front_sound : (b : ℕ) (bs : List ℕ) → Sound (b ∷ bs) (front b (b ∷ bs))
unfolding front
front_sound b bs =
    let P = Sound (b ∷ bs) in
    cond_both (is_white b) _ _ P
    (λ w. record { part = White; text = b ∷ []; more = bs; split = refl; fits = (b, refl, w); long = refl; some = omega arith; same = λ from to. refl })
    (λ w. cond_both (is_letter b) _ _ P (λ l. word_sound (b ∷ bs) l)
    (λ l. cond_both (is_digit b) _ _ P (λ d. number_sound (b ∷ bs) d)
    (λ d. cond_both (is_quote b) _ _ P (λ q. subst (λ k. Sound (k ∷ bs) (text_front bs)) (sym (eqb-true b 39 q)) (text_sound bs _ (string_at bs false 0)))
    (λ q. other_sound (b ∷ bs) (plain_other b w l d q)))))

abbrev pub first_byte : List ℕ → ℕ
first_byte bytes = get_or bytes 0 0

-- what is read in front of bytes
abbrev pub front_of : List ℕ → Result Front Code
front_of bytes = front (first_byte bytes) bytes

pub front-white : (b : ℕ) (bytes : List ℕ) → is_white b ≡ true → front b bytes ≡ Ok (blank 1)
unfolding front
front-white b bytes w = cond-true (is_white b) _ _ w

pub front-word : (b : ℕ) (bytes : List ℕ) → is_letter b ≡ true → front b bytes ≡ word_front bytes
unfolding front
front-word b bytes h = cond-false (is_white b) _ _ (letter_not_white b h) ∙ cond-true (is_letter b) _ _ h

pub front-number : (b : ℕ) (bytes : List ℕ) → is_digit b ≡ true → front b bytes ≡ number_front bytes
unfolding front
front-number b bytes h =
    cond-false (is_white b) _ _ (digit_not_white b h) ∙ cond-false (is_letter b) _ _ (digit_not_letter b h) ∙ cond-true (is_digit b) _ _ h

pub front-text : (bytes : List ℕ) → front 39 bytes ≡ text_front (drop 1 bytes)
unfolding front is_white is_letter
front-text bytes = refl

pub front-other : (b : ℕ) (bytes : List ℕ) → is_other b ≡ true → front b bytes ≡ other_front bytes
unfolding front
front-other b bytes h =
    let p = other_plain b h in
    cond-false (is_white b) _ _ p.white ∙ cond-false (is_letter b) _ _ p.letter ∙ cond-false (is_digit b) _ _ p.digit ∙ cond-false (is_quote b) _ _ p.quote

pub word_front-is : (text more : List ℕ) → IsWord text more → length text ≤ 128 → word_front (text ++ more) ≡ Ok (lexeme (kind.Word (map upper text)) (length text))
word_front-is text more w l =
    rw (prefix_whole is_word_byte text more w.run.all w.run.ends, take_at text more (length text) refl) (cond-true _ _ _ (le-leb (length text) 128 l))

pub word_front-long : (text more : List ℕ) → IsWord text more → 128 < length text → word_front (text ++ more) ≡ Err (Ebr 23)
word_front-long text more w l = rw (prefix_whole is_word_byte text more w.run.all w.run.ends) (cond-false _ _ _ (lt-leb (length text) 128 l))

pub number_front-is : (text more : List ℕ) → IsNumber text more → length text ≤ 18 → number_front (text ++ more) ≡ Ok (lexeme (kind.Number (decimal text)) (length text))
number_front-is text more w l =
    rw (prefix_whole is_digit text more w.run.all w.run.ends, take_at text more (length text) refl) (cond-true _ _ _ (le-leb (length text) 18 l))

pub number_front-long : (text more : List ℕ) → IsNumber text more → 18 < length text → number_front (text ++ more) ≡ Err (Ebr 22)
number_front-long text more w l = rw (prefix_whole is_digit text more w.run.all w.run.ends) (cond-false _ _ _ (lt-leb (length text) 18 l))

-- a string is read as its content, unless that is too long
pub text_front-is : (content more : List ℕ) → first_is is_quote more ≡ false → text_front (doubled content ++ 39 ∷ more) ≡ content_front content (length (doubled content) + 2)
text_front-is content more h =
    let d = doubled content in
    let bytes = d ++ 39 ∷ more in
    let at : 0 + length d + 1 - 1 ≡ length d = omega arith in
    let two : 0 + length d + 1 + 1 ≡ length d + 2 = omega arith in
    let raw : take (0 + length d + 1 - 1) bytes ≡ d = ap (λ k. take k bytes) at ∙ take_at d (39 ∷ more) (length d) refl in
    ap (text_of bytes) (string_found content more 0 h) ∙ ap (λ (k : List ℕ). content_front (undoubled false k) (0 + length d + 1 + 1)) raw
    ∙ ap (λ (k : List ℕ). content_front k (0 + length d + 1 + 1)) (undoubled_doubled content) ∙ ap (content_front content) two
