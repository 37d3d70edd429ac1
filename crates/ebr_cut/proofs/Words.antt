-- The words in front: what `word_front` finds, and that it finds each; what the bytes begin with.
use Rattle.std.proofs.Common.{ℕ, zero, suc, ◌≡◌, ◌<◌, ◌≤◌, ◌-◌, ◌+◌, Bool, true, false, ◌&&◌, cond, List, [], ◌∷◌, ◌++◌, map, length, take, drop, refl, ap, ◌∙◌, sym, arith, subst, append_assoc, get_or, ◌==◌}
use Rattle.std.proofs.lemmas.Bool.{and_parts, and_left, eqb-true, false≢true, both_ways, cond-false, cond_both, false_from_ne_true}
use Rattle.std.proofs.lemmas.List.{length-append, take-append-drop, take_at, drop_at, drop-drop}
use Rattle.std.proofs.lemmas.Slice.Eq.{bytes_eq-Decides}
use Rattle.std.specs.List.{prefix_len}
use Rattle.std.specs.Str.{bytes_eq}
use Rattle.ebr_base.specs.Word.{is_letter, is_word_byte, is_white, upper}
use Rattle.ebr_lexer.specs.declared.token.TokenKind.{TokenKind}
use Rattle.ebr_lexer.specs.declared.token.TokenKind.TheVariants as kind
use Rattle.ebr_lexer.specs.Lexis as lexis
use Rattle.ebr_lexer.specs.Lexis.{first_is, begins, IsRun, IsWord}
use Rattle.ebr_lexer.proofs.Runs.{prefix_all, prefix_ends, prefix_whole, word_some}
use Rattle.ebr_lexer.proofs.Bytes.{letter_not_white, first_take, first_some}
use Rattle.ebr_cut.specs.Sections.{Blank, White, LineComment, BlockComment, IsBlank}
use Rattle.ebr_cut.specs.Heads.{token_of, tokens_among, BeginsWith}
use Rattle.ebr_cut.specs.Reading.{blank_front, passed, blanks_length, is_spelled, word_front}
use Rattle.ebr_cut.proofs.Passed.{passed-zero, passed-suc, passed-none, passed-step}
use Rattle.ebr_cut.proofs.Blanks.{Blanked, blank_sound, blank_is, blank_some}

pub eq_from : (xs ys : List ℕ) → bytes_eq xs ys ≡ true → xs ≡ ys
eq_from xs ys e = (bytes_eq-Decides xs ys).0 e

-- the part that a blank is
abbrev part_of : Blank → lexis.Part
part_of White = lexis.White
part_of LineComment = lexis.LineComment
part_of BlockComment = lexis.BlockComment

part_fits : (kind : Blank) (text more : List ℕ) → IsBlank kind text more → lexis.IsPart (part_of kind) text more
part_fits White text more h = h
part_fits LineComment text more h = h
part_fits BlockComment text more h = h

no_token : (kind : Blank) → token_of (part_of kind) ≡ []
no_token White = refl
no_token LineComment = refl
no_token BlockComment = refl

-- blanks stand in front, and then `rest`
pub record Blanks (bytes rest : List ℕ) : Type 0 where
  pub parts : List lexis.Spelled
  pub stand : lexis.Stand parts bytes rest
  pub none : tokens_among parts ≡ []

blanks_one : (n b : ℕ) (bs : List ℕ) (w : Blanked (blank_front (b ∷ bs)) b (b ∷ bs)) → Blanks w.more (drop (passed blank_front n w.more) w.more)
    → Blanks (b ∷ bs) (drop (passed blank_front (suc n) (b ∷ bs)) (b ∷ bs))
blanks_one n b bs w s =
    let bytes = b ∷ bs in
    let m = blank_front bytes in
    let one : suc n ≡ n + 1 = omega arith in
    let after : drop m bytes ≡ w.more = ap (drop m) w.split ∙ drop_at w.text w.more m (sym w.long) in
    let step : passed blank_front (suc n) bytes ≡ m + passed blank_front n w.more = passed-suc blank_front (suc n) n bytes one ∙ ap (λ (k : List ℕ). m + passed blank_front n k) after in
    let place : drop (passed blank_front (suc n) bytes) bytes ≡ drop (passed blank_front n w.more) w.more = ap (λ k. drop k bytes) step ∙ sym (drop-drop (passed blank_front n w.more) m bytes) ∙ ap (drop (passed blank_front n w.more)) after in
    record {
      parts = record { part = part_of w.kind; text = w.text } ∷ s.parts;
      stand = (w.more, w.split, part_fits w.kind w.text w.more w.fits, subst (lexis.Stand s.parts w.more) (sym place) s.stand);
      none = ap (λ k. k ++ tokens_among s.parts) (no_token w.kind) ∙ s.none;
    }

blanks_none : (n : ℕ) (bytes : List ℕ) → passed blank_front n bytes ≡ 0 → Blanks bytes (drop (passed blank_front n bytes) bytes)
blanks_none n bytes e = record { parts = []; stand = sym (ap (λ k. drop k bytes) e); none = refl }

blanks_by : (m n b : ℕ) (bs : List ℕ) → blank_front (b ∷ bs) ≡ m → ((rest : List ℕ) → Blanks rest (drop (passed blank_front n rest) rest))
    → Blanks (b ∷ bs) (drop (passed blank_front (suc n) (b ∷ bs)) (b ∷ bs))
blanks_by zero n b bs e ih = blanks_none (suc n) (b ∷ bs) (passed-none blank_front (suc n) (b ∷ bs) e)
blanks_by (suc m) n b bs e ih = let w = blank_sound b bs (omega (arith, e)) in blanks_one n b bs w (ih w.more)

blanks_sound : (n : ℕ) (bytes : List ℕ) → Blanks bytes (drop (passed blank_front n bytes) bytes)
blanks_sound zero bytes = blanks_none zero bytes (passed-zero blank_front zero bytes refl)
blanks_sound (suc n) [] = blanks_none (suc n) [] (passed-none blank_front (suc n) [] refl)
blanks_sound (suc n) (b ∷ bs) = blanks_by (blank_front (b ∷ bs)) n b bs refl (blanks_sound n)

stand_append : (ps qs : List lexis.Spelled) (bytes mid rest : List ℕ) → lexis.Stand ps bytes mid → lexis.Stand qs mid rest → lexis.Stand (ps ++ qs) bytes rest
stand_append [] qs bytes mid rest s t = subst (λ (k : List ℕ). lexis.Stand qs k rest) (sym s) t
stand_append (p ∷ ps) qs bytes mid rest s t = (s.0, s.1, s.2, stand_append ps qs s.0 mid rest s.3 t)

tokens_append : (ps qs : List lexis.Spelled) → tokens_among (ps ++ qs) ≡ tokens_among ps ++ tokens_among qs
tokens_append [] qs = refl
tokens_append (p ∷ ps) qs = ap (λ k. token_of p.part ++ k) (tokens_append ps qs) ∙ sym (append_assoc (token_of p.part) (tokens_among ps) (tokens_among qs))

-- blanks, then a word in any case, and then what follows it
pub record Ahead (word bytes after : List ℕ) : Type 0 where
  pub rest : List ℕ
  pub blanks : Blanks bytes rest
  pub text : List ℕ
  pub split : rest ≡ text ++ after
  pub fits : IsWord text after
  pub spells : map upper text ≡ word

ahead_by : (word bytes : List ℕ) (n : ℕ) → is_spelled word (drop n bytes) ≡ true → Blanks bytes (drop n bytes)
    → Ahead word bytes (drop (n + prefix_len is_word_byte (drop n bytes)) bytes)
ahead_by word bytes n e b =
    let rest = drop n bytes in
    let m = prefix_len is_word_byte rest in
    let p = and_parts _ _ e in
    let run : IsRun is_word_byte (take m rest) (drop m rest) = record { all = prefix_all is_word_byte rest; ends = prefix_ends is_word_byte rest } in
    let w : IsWord (take m rest) (drop m rest) = record { letter = first_take is_letter rest m (word_some rest p.0) p.0; run = run } in
    subst (Ahead word bytes) (drop-drop m n bytes)
    (record { rest = rest; blanks = b; text = take m rest; split = sym (take-append-drop m rest); fits = w; spells = eq_from _ _ p.1 })

-- what is found is a word in front
pub ahead : (word bytes : List ℕ) → 0 < word_front word bytes → Ahead word bytes (drop (word_front word bytes) bytes)
unfolding word_front
ahead word bytes =
    let n = blanks_length bytes in
    cond_both (is_spelled word (drop n bytes)) _ _ (λ k. 0 < k → Ahead word bytes (drop k bytes))
    (λ e l. ahead_by word bytes n e (blanks_sound (length bytes) bytes)) (λ e l. absurd (omega (arith, l)))

pub length-map : (text : List ℕ) → length (map upper text) ≡ length text
length-map [] = refl
length-map (x ∷ xs) = ap suc (length-map xs)

-- one word more in front
pub words_more : (word bytes after : List ℕ) (words : List (List ℕ)) → length word ≤ 128 → Ahead word bytes after → BeginsWith words after → BeginsWith (word ∷ words) bytes
words_more word bytes after words few a b =
    let len = sym (length-map a.text) ∙ ap length a.spells in
    let lexeme : lexis.Spelled = record { part = lexis.Lexeme (kind.Word word); text = a.text } in
    let short : length a.text ≤ 128 = omega (arith, len, few) in
    let here : lexis.Stand (lexeme ∷ b.parts) a.rest b.rest = (after, a.split, (a.fits, short, sym a.spells), b.stand) in
    record {
      parts = a.blanks.parts ++ lexeme ∷ b.parts;
      rest = b.rest;
      stand = stand_append a.blanks.parts (lexeme ∷ b.parts) bytes a.rest b.rest a.blanks.stand here;
      spells = tokens_append a.blanks.parts (lexeme ∷ b.parts) ∙ ap (λ k. k ++ kind.Word word ∷ tokens_among b.parts) a.blanks.none ∙ ap (λ k. kind.Word word ∷ k) b.spells;
    }

pub no_words : (bytes : List ℕ) → BeginsWith [] bytes
no_words bytes = record { parts = []; rest = bytes; stand = refl; spells = refl }

-- No blank begins with a letter.
begins_no : (x y b : ℕ) (bs : List ℕ) → is_letter b ≡ true → is_letter x ≡ false → begins x y (b ∷ bs) ≡ false
begins_no x y b [] l n = refl
begins_no x y b (c ∷ bs) l n = and_left _ _ (false_from_ne_true (b == x) (λ e. both_ways (is_letter x) n (subst (λ k. is_letter k ≡ true) (eqb-true b x e) l)))

dash_no : is_letter 45 ≡ false
unfolding is_letter
dash_no = refl

slash_no : is_letter 47 ≡ false
unfolding is_letter
slash_no = refl

letter_no_blank : (bytes : List ℕ) → first_is is_letter bytes ≡ true → blank_front bytes ≡ 0
letter_no_blank [] l = refl
letter_no_blank (b ∷ bs) l =
    let line = begins 45 45 (b ∷ bs) in
    let block = begins 47 42 (b ∷ bs) in
    cond-false (is_white b) _ _ (letter_not_white b l) ∙ cond-false line _ _ (begins_no 45 45 b bs l dash_no) ∙ cond-false block _ _ (begins_no 47 42 b bs l slash_no)

first_before : (p : ℕ → Bool) (xs more : List ℕ) → first_is p xs ≡ true → first_is p (xs ++ more) ≡ true
first_before p [] more h = absurd (false≢true h)
first_before p (x ∷ xs) more h = h

-- the first word, which the blanks in front lead to
pub record Next (word : List ℕ) (words : List (List ℕ)) (bytes : List ℕ) : Type 0 where
  pub text : List ℕ
  pub after : List ℕ
  pub skipped : (n : ℕ) → length bytes ≤ n → drop (passed blank_front n bytes) bytes ≡ text ++ after
  pub fits : IsWord text after
  pub spells : word ≡ map upper text
  pub rest : BeginsWith words after

next_over : (kind : Blank) (word : List ℕ) (words : List (List ℕ)) (bytes text more : List ℕ) → bytes ≡ text ++ more → IsBlank kind text more → Next word words more → Next word words bytes
next_over kind word words bytes text more e h x = record {
  text = x.text;
  after = x.after;
  skipped = λ n l.
      let some = blank_some kind text more h in
      let len = ap length e ∙ length-append text more in
      let step = passed-step blank_front n bytes text more l e some (ap blank_front e ∙ blank_is kind text more h) in
      let p = passed blank_front (n - 1) more in
      let over : drop (length text + p) bytes ≡ drop p more = sym (drop-drop p (length text) bytes) ∙ ap (drop p) (ap (drop (length text)) e ∙ drop_at text more (length text) refl) in
      ap (λ k. drop k bytes) step ∙ over ∙ x.skipped (n - 1) (omega (arith, l, len, some));
  fits = x.fits;
  spells = x.spells;
  rest = x.rest;
}

next_here : (word : List ℕ) (words : List (List ℕ)) (bytes text more rest : List ℕ) (ps : List lexis.Spelled) → bytes ≡ text ++ more → IsWord text more → word ≡ map upper text → lexis.Stand ps more rest
    → tokens_among ps ≡ map (λ w. kind.Word w) words → Next word words bytes
next_here word words bytes text more rest ps e h w s t = record {
  text = text;
  after = more;
  skipped = λ n l.
      let none = passed-none blank_front n bytes (letter_no_blank bytes (subst (λ (k : List ℕ). first_is is_letter k ≡ true) (sym e) (first_before is_letter text more h.letter))) in
      ap (λ k. drop k bytes) none ∙ e;
  fits = h;
  spells = w;
  rest = record { parts = ps; rest = rest; stand = s; spells = t };
}

next_lexeme : (k : TokenKind) (word : List ℕ) (words : List (List ℕ)) (bytes text more rest : List ℕ) (ps : List lexis.Spelled) → bytes ≡ text ++ more → lexis.IsLexeme k text more → lexis.Stand ps more rest
    → k ∷ tokens_among ps ≡ map (λ w. kind.Word w) (word ∷ words) → Next word words bytes
next_lexeme k word words bytes text more rest ps e h s t =
    let same : k ≡ kind.Word word = ap (λ ks. get_or ks 0 k) t in
    let w = subst (λ j. lexis.IsLexeme j text more) same h in
    next_here word words bytes text more rest ps e w.0 w.2 s (ap (drop 1) t)

next_by : (ps : List lexis.Spelled) (word : List ℕ) (words : List (List ℕ)) (bytes rest : List ℕ) → lexis.Stand ps bytes rest → tokens_among ps ≡ map (λ w. kind.Word w) (word ∷ words) → Next word words bytes
next_by [] word words bytes rest s t = let z = ap length t in absurd (omega (arith, z))
next_by (p ∷ ps) word words bytes rest s t = next_part p.part p.text ps word words bytes s.0 rest (next_by ps word words s.0 rest s.3) s.1 s.2 s.3 t where
  next_part : (part : lexis.Part) (text : List ℕ) (ps : List lexis.Spelled) (word : List ℕ) (words : List (List ℕ)) (bytes more rest : List ℕ)
      → (tokens_among ps ≡ map (λ w. kind.Word w) (word ∷ words) → Next word words more)
      → bytes ≡ text ++ more → lexis.IsPart part text more → lexis.Stand ps more rest → token_of part ++ tokens_among ps ≡ map (λ w. kind.Word w) (word ∷ words) → Next word words bytes
  next_part lexis.White text ps word words bytes more rest ih e h s t = next_over White word words bytes text more e h (ih t)
  next_part lexis.LineComment text ps word words bytes more rest ih e h s t = next_over LineComment word words bytes text more e h (ih t)
  next_part lexis.BlockComment text ps word words bytes more rest ih e h s t = next_over BlockComment word words bytes text more e h (ih t)
  next_part (lexis.Lexeme k) text ps word words bytes more rest ih e h s t = next_lexeme k word words bytes text more rest ps e h s t

-- the first word is found, and no other
pub record First (word : List ℕ) (words : List (List ℕ)) (bytes : List ℕ) : Type 0 where
  pub long : ℕ
  pub some : 0 < long
  pub front : (v : List ℕ) → word_front v bytes ≡ cond (bytes_eq word v) long 0
  pub rest : BeginsWith words (drop long bytes)

front_by : (v bytes text after : List ℕ) → drop (blanks_length bytes) bytes ≡ text ++ after → IsWord text after
    → word_front v bytes ≡ cond (bytes_eq (map upper text) v) (blanks_length bytes + length text) 0
unfolding word_front
front_by v bytes text after e h =
    let n = blanks_length bytes in
    let len : prefix_len is_word_byte (text ++ after) ≡ length text = prefix_whole is_word_byte text after h.run.all h.run.ends in
    let spelled : is_spelled v (text ++ after) ≡ bytes_eq (map upper text) v =
    ap (λ b. b && bytes_eq (map upper (take (prefix_len is_word_byte (text ++ after)) (text ++ after))) v) (first_before is_letter text after h.letter)
    ∙ ap (λ (k : List ℕ). bytes_eq (map upper k) v) (ap (λ m. take m (text ++ after)) len ∙ take_at text after (length text) refl) in
    ap (λ (k : List ℕ). cond (is_spelled v k) (n + prefix_len is_word_byte k) 0) e
    ∙ ap (λ b. cond b (n + prefix_len is_word_byte (text ++ after)) 0) spelled ∙ ap (λ m. cond (bytes_eq (map upper text) v) (n + m) 0) len

pub first : (word : List ℕ) (words : List (List ℕ)) (bytes : List ℕ) → BeginsWith (word ∷ words) bytes → First word words bytes
first word words bytes b =
    let x = next_by b.parts word words bytes b.rest b.stand b.spells in
    let n = blanks_length bytes in
    let skipped = x.skipped (length bytes) (omega arith) in
    let some = first_some is_letter x.text x.fits.letter in
    let after : drop (n + length x.text) bytes ≡ x.after = sym (drop-drop (length x.text) n bytes) ∙ ap (drop (length x.text)) skipped ∙ drop_at x.text x.after (length x.text) refl in
    record {
      long = n + length x.text;
      some = omega (arith, some);
      front = λ v. front_by v bytes x.text x.after skipped x.fits ∙ ap (λ (k : List ℕ). cond (bytes_eq k v) (n + length x.text) 0) (sym x.spells);
      rest = subst (BeginsWith words) (sym after) x.rest;
    }
