-- Where pieces that end with a semicolon end: what `statement_length` finds, and that it finds each.
use Rattle.std.proofs.Common.{ℕ, zero, suc, ◌≡◌, ◌<◌, ◌≤◌, ◌-◌, ◌+◌, Bool, true, false, ◌&&◌, cond, nat_lt, List, [], ◌∷◌, ◌++◌, length, drop, refl, ap, ◌∙◌, sym, arith, subst, Option, Some, None, append_assoc, append-nil, inl, inr, ◌⊎◌}
use Rattle.std.proofs.lemmas.Bool.{or_from, or_parts, eqb-true, false≢true, not-true, not_from_false, cond-true, cond-false, cond_both, both_ways, ltb-true, lt-ltb}
use Rattle.std.proofs.lemmas.List.{length-append, drop_at, nil_from_length}
use Rattle.std.proofs.Math.ListN.{drop_of_length-le}
use Rattle.ebr_lexer.specs.Lexis.{is_quote, doubled, begins, begins_comment, IsString, IsWrong, OpenString, OpenComment}
use Rattle.ebr_lexer.specs.Extents.{string_length}
use Rattle.ebr_lexer.proofs.Strings.{StringAt, string_at, string_found, string_none, comment_none}
use Rattle.ebr_cut.specs.Sections.{begins_whole_comment, is_semicolon, is_plain, Bit, Quoted, Line, Block, Byte, IsBit, Bits, StatementEnd, AtSemicolon, AtScriptEnd, Unterminated, EndsBy, EndsAsStatement}
use Rattle.ebr_cut.specs.Reading.{with_opening, comment_front, bit_front, plain_front, passed, statement_length}
use Rattle.ebr_cut.proofs.Passed.{passed-zero, passed-suc, passed-none, passed-step}
use Rattle.ebr_cut.proofs.Blanks.{IsComment, begins_is, comment_sound, comment_is, comment_some, whole_none}

-- a whole bit of n bytes stands in front
pub record Whole (n : ℕ) (bytes : List ℕ) : Type 0 where
  pub text : List ℕ
  pub more : List ℕ
  pub bit : Bit
  pub split : bytes ≡ text ++ more
  pub fits : IsBit bit text more
  pub long : n ≡ length text
  pub some : 0 < length text

-- a string or comment without an end
abbrev pub IsOpen : List ℕ → Type 0
IsOpen bytes = IsWrong OpenString bytes ⊎ IsWrong OpenComment bytes

pub record Open (n : ℕ) (bytes : List ℕ) : Type 0 where
  pub fits : IsOpen bytes
  pub long : n ≡ length bytes

pub record Closed (n : ℕ) (bytes : List ℕ) : Type 0 where
  pub none : n ≡ 0
  pub rest : List ℕ
  pub split : bytes ≡ 59 ∷ rest

-- what stands in front, of n bytes
abbrev pub Stands : ℕ → List ℕ → Type 0
Stands n bytes = Closed n bytes ⊎ (Whole n bytes ⊎ Open n bytes)

comment_whole : (n : ℕ) (bytes text more : List ℕ) → bytes ≡ text ++ more → n ≡ length text → IsComment text more → Whole n bytes
comment_whole n bytes text more split long (inl h) =
    record { text = text; more = more; bit = Line; split = split; fits = h; long = long; some = comment_some text more (inl h) }
comment_whole n bytes text more split long (inr h) =
    record { text = text; more = more; bit = Block; split = split; fits = h; long = long; some = comment_some text more (inr h) }

string_stands : (bs : List ℕ) (r : Option ℕ) → StringAt false 0 bs r → Stands (with_opening 1 (length (39 ∷ bs)) r) (39 ∷ bs)
string_stands bs None s = inr (inr (record { fits = inl (s.0, ap (λ k. 39 ∷ k) s.1); long = refl }))
string_stands bs (Some m) s =
    let d = doubled s.0 in
    let len : length (d ++ 39 ∷ []) ≡ length d + 1 = length-append d (39 ∷ []) in
    let at = s.4 in
    inr (inl (record {
      text = 39 ∷ d ++ 39 ∷ [];
      more = s.1;
      bit = Quoted s.0;
      split = ap (λ k. 39 ∷ k) (s.2 ∙ sym (append_assoc d (39 ∷ []) s.1));
      fits = record { spelled = refl; ends = s.3 };
      long = omega (arith, len, at);
      some = omega arith;
    }))

pub zero_from : (n : ℕ) → nat_lt 0 n ≡ false → n ≡ 0
zero_from zero e = refl
zero_from (suc n) e = absurd (both_ways (nat_lt 0 (suc n)) e (lt-ltb 0 (suc n) (omega arith)))

when : (x y : Bool) → (x && y) ≡ false → x ≡ true → y ≡ false
when true y h e = h
when false y h e = absurd (false≢true e)

-- no comment with its end stands in front
open_or_byte : (b : ℕ) (bs : List ℕ) → is_plain b ≡ true → begins_whole_comment (b ∷ bs) ≡ false → Stands (cond (begins 47 42 (b ∷ bs)) (length (b ∷ bs)) 1) (b ∷ bs)
open_or_byte b bs p w =
    let q = or_parts _ _ w in
    cond_both (begins 47 42 (b ∷ bs)) _ _ (λ n. Stands n (b ∷ bs))
    (λ e. inr (inr (record { fits = inr (drop 2 (b ∷ bs), begins_is 47 42 (b ∷ bs) e, when _ _ q.1 e); long = refl })))
    (λ e. inr (inl (record {
      text = b ∷ [];
      more = bs;
      bit = Byte;
      split = refl;
      fits = record { byte = b; spelled = refl; plain = p; none = or_from _ _ q.0 e };
      long = refl;
      some = omega arith;
    })))

plain_stands : (b : ℕ) (bs : List ℕ) → is_plain b ≡ true → Stands (plain_front (b ∷ bs)) (b ∷ bs)
plain_stands b bs p =
    let bytes = b ∷ bs in
    cond_both (nat_lt 0 (comment_front bytes)) _ _ (λ n. Stands n bytes)
    (λ e. let c = comment_sound bytes (ltb-true 0 _ e) in inr (inl (comment_whole (comment_front bytes) bytes c.text c.more c.split c.long c.fits)))
    (λ e. open_or_byte b bs p (whole_none bytes (zero_from (comment_front bytes) e)))

pub bit_stands : (b : ℕ) (bs : List ℕ) → Stands (bit_front (b ∷ bs)) (b ∷ bs)
bit_stands b bs =
    cond_both (is_semicolon b) _ _ (λ n. Stands n (b ∷ bs)) (λ e. inl (record { none = refl; rest = bs; split = ap (λ k. k ∷ bs) (eqb-true b 59 e) }))
    (λ e. cond_both (is_quote b) _ _ (λ n. Stands n (b ∷ bs))
    (λ q. subst (λ k. Stands (with_opening 1 (length (k ∷ bs)) (string_length false 0 bs)) (k ∷ bs)) (sym (eqb-true b 39 q)) (string_stands bs (string_length false 0 bs) (string_at bs false 0)))
    (λ q. plain_stands b bs (not_from_false _ (or_from _ _ e q))))

-- where a piece ends that has n bytes
pub record Statement (n : ℕ) (bytes : List ℕ) : Type 0 where
  pub text : List ℕ
  pub closing : List ℕ
  pub more : List ℕ
  pub split : bytes ≡ text ++ closing ++ more
  pub long : n ≡ length text
  pub ends : EndsAsStatement text closing more

script_end : (n : ℕ) → n ≡ 0 → Statement n []
script_end n e = record {
  text = [];
  closing = [];
  more = [];
  split = refl;
  long = e;
  ends = record { bits = []; tail = []; stand = refl; how = AtScriptEnd; ends = (refl, refl, refl) };
}

closed_ends : (n m : ℕ) (bytes : List ℕ) → Closed m bytes → Statement (m + passed bit_front n (drop m bytes)) bytes
closed_ends n m bytes c =
    let none : passed bit_front n bytes ≡ 0 = passed-none bit_front n bytes (ap bit_front c.split) in
    record {
      text = [];
      closing = 59 ∷ [];
      more = c.rest;
      split = c.split;
      long = ap (λ k. k + passed bit_front n (drop k bytes)) c.none ∙ (omega (arith, none));
      ends = record { bits = []; tail = []; stand = refl; how = AtSemicolon; ends = (refl, refl) };
    }

open_ends : (n m : ℕ) (bytes : List ℕ) → Open m bytes → Statement (m + passed bit_front n (drop m bytes)) bytes
open_ends n m bytes o =
    let long = o.long in
    let all : drop m bytes ≡ [] = drop_of_length-le bytes (omega (arith, long)) in
    let none : passed bit_front n (drop m bytes) ≡ 0 = passed-none bit_front n (drop m bytes) (ap bit_front all) in
    record {
      text = bytes;
      closing = [];
      more = [];
      split = sym (append-nil (bytes ++ []) ∙ append-nil bytes);
      long = omega (arith, none, long);
      ends = record { bits = []; tail = bytes; stand = refl; how = Unterminated; ends = (o.fits, refl, refl) };
    }

whole_ends : (n m : ℕ) (bytes : List ℕ) (w : Whole m bytes) → Statement (passed bit_front n w.more) w.more → Statement (m + passed bit_front n (drop m bytes)) bytes
whole_ends n m bytes w s =
    let after : drop m bytes ≡ w.more = ap (drop m) w.split ∙ drop_at w.text w.more m (sym w.long) in
    let same : passed bit_front n (drop m bytes) ≡ passed bit_front n w.more = ap (λ (k : List ℕ). passed bit_front n k) after in
    let len = length-append w.text s.text in
    let long = w.long in
    let rest = s.long in
    let whole = ap (λ k. k ++ s.more) (append_assoc w.text s.text s.closing) ∙ append_assoc w.text (s.text ++ s.closing) s.more in
    record {
      text = w.text ++ s.text;
      closing = s.closing;
      more = s.more;
      split = w.split ∙ ap (λ k. w.text ++ k) s.split ∙ sym whole;
      long = omega (arith, same, len, long, rest);
      ends = record {
        bits = w.text ∷ s.ends.bits;
        tail = s.ends.tail;
        stand = (w.bit, s.text ++ s.closing ++ s.more, whole, subst (IsBit w.bit w.text) s.split w.fits, s.ends.stand);
        how = s.ends.how;
        ends = s.ends.ends;
      };
    }

statement_step : (n m : ℕ) (bytes : List ℕ) → length bytes ≤ suc n → ((rest : List ℕ) → length rest ≤ n → Statement (passed bit_front n rest) rest) → Stands m bytes
    → Statement (m + passed bit_front n (drop m bytes)) bytes
statement_step n m bytes l ih (inl c) = closed_ends n m bytes c
statement_step n m bytes l ih (inr (inr o)) = open_ends n m bytes o
statement_step n m bytes l ih (inr (inl w)) =
    let len = ap length w.split ∙ length-append w.text w.more in
    let some = w.some in
    whole_ends n m bytes w (ih w.more (omega (arith, len, some, l)))

-- what is found is where such a piece ends
pub statement_sound : (n : ℕ) (bytes : List ℕ) → length bytes ≤ n → Statement (passed bit_front n bytes) bytes
statement_sound zero bytes l =
    subst (λ (k : List ℕ). Statement (passed bit_front zero k) k) (sym (nil_from_length bytes (omega (arith, l)))) (script_end _ (passed-zero bit_front zero [] refl))
statement_sound (suc n) [] l = script_end _ (passed-none bit_front (suc n) [] refl)
statement_sound (suc n) (b ∷ bs) l =
    let one : suc n ≡ n + 1 = omega arith in
    subst (λ k. Statement k (b ∷ bs)) (sym (passed-suc bit_front (suc n) n (b ∷ bs) one))
    (statement_step n (bit_front (b ∷ bs)) (b ∷ bs) l (statement_sound n) (bit_stands b bs))

plain_comment : (text more : List ℕ) → IsComment text more → plain_front (text ++ more) ≡ length text
plain_comment text more h =
    let c = comment_is text more h in
    let some = comment_some text more h in
    let l : 0 < comment_front (text ++ more) = omega (arith, c, some) in
    cond-true _ _ _ (lt-ltb 0 _ l) ∙ c

comment_bit : (text more : List ℕ) → IsComment text more → bit_front (text ++ more) ≡ length text
comment_bit text more (inl h) =
    ap (λ (k : List ℕ). bit_front (k ++ more)) h.spelled ∙ ap (λ (k : List ℕ). plain_front (k ++ more)) (sym h.spelled) ∙ plain_comment text more (inl h)
comment_bit text more (inr h) =
    ap (λ (k : List ℕ). bit_front (k ++ more)) h.spelled ∙ ap (λ (k : List ℕ). plain_front (k ++ more)) (sym h.spelled) ∙ plain_comment text more (inr h)

string_bit : (content text more : List ℕ) → IsString content text more → bit_front (text ++ more) ≡ length text
string_bit content text more h =
    let d = doubled content in
    let len : length (d ++ 39 ∷ []) ≡ length d + 1 = length-append d (39 ∷ []) in
    let all = ap length h.spelled in
    let whole : text ++ more ≡ 39 ∷ d ++ 39 ∷ more = ap (λ k. k ++ more) h.spelled ∙ ap (λ k. 39 ∷ k) (append_assoc d (39 ∷ []) more) in
    ap bit_front whole ∙ ap (with_opening 1 (length (39 ∷ d ++ 39 ∷ more))) (string_found content more 0 h.ends) ∙ (omega (arith, len, all))

byte_bit : (b : ℕ) (more : List ℕ) → is_plain b ≡ true → begins_comment (b ∷ more) ≡ false → bit_front (b ∷ more) ≡ 1
byte_bit b more p c =
    let q = or_parts _ _ (not-true _ p) in
    let line = begins 45 45 (b ∷ more) in
    let block = begins 47 42 (b ∷ more) in
    let r = or_parts line block c in
    let none : comment_front (b ∷ more) ≡ 0 = cond-false line _ _ r.0 ∙ cond-false block _ _ r.1 in
    cond-false (is_semicolon b) _ _ q.0 ∙ cond-false (is_quote b) _ _ q.1 ∙ ap (λ k. cond (nat_lt 0 k) k (cond block (length (b ∷ more)) 1)) none ∙ cond-false block (length (b ∷ more)) 1 r.1

bit_is : (bit : Bit) (text more : List ℕ) → IsBit bit text more → bit_front (text ++ more) ≡ length text
bit_is (Quoted content) text more h = string_bit content text more h
bit_is Line text more h = comment_bit text more (inl h)
bit_is Block text more h = comment_bit text more (inr h)
bit_is Byte text more h =
    ap (λ (k : List ℕ). bit_front (k ++ more)) h.spelled ∙ byte_bit h.byte more h.plain (ap (λ (k : List ℕ). begins_comment (k ++ more)) (sym h.spelled) ∙ h.none) ∙ sym (ap length h.spelled)

bit_some : (bit : Bit) (text more : List ℕ) → IsBit bit text more → 0 < length text
bit_some (Quoted content) text more h = let len = ap length h.spelled in omega (arith, len)
bit_some Line text more h = comment_some text more (inl h)
bit_some Block text more h = comment_some text more (inr h)
bit_some Byte text more h = let len = ap length h.spelled in omega (arith, len)

open_is : (tail : List ℕ) → IsOpen tail → bit_front tail ≡ length tail
open_is tail (inl h) =
    let d = doubled h.0 in
    ap bit_front h.1 ∙ ap (with_opening 1 (length (39 ∷ d))) (string_none h.0 0) ∙ sym (ap length h.1)
open_is tail (inr h) =
    let body = h.0 in
    ap bit_front h.1 ∙ ap (λ k. cond (nat_lt 0 k) k (length (47 ∷ 42 ∷ body))) (ap (with_opening 2 0) (comment_none body false 0 h.2)) ∙ sym (ap length h.1)

open_some : (tail : List ℕ) → IsOpen tail → 0 < length tail
open_some tail (inl h) = let len = ap length h.1 in omega (arith, len)
open_some tail (inr h) = let len = ap length h.1 in omega (arith, len)

at_end : (how : StatementEnd) (n : ℕ) (bytes tail closing more : List ℕ) → length bytes ≤ n → bytes ≡ tail ++ closing ++ more → EndsBy how tail closing more
    → passed bit_front n bytes + length (closing ++ more) ≡ length bytes
at_end AtSemicolon n bytes tail closing more l e h =
    let whole : bytes ≡ 59 ∷ more = e ∙ ap (λ k. k ++ closing ++ more) h.0 ∙ ap (λ k. k ++ more) h.1 in
    let none = passed-none bit_front n bytes (ap bit_front whole) in
    let len = ap length whole in
    let rest = ap (λ (k : List ℕ). length (k ++ more)) h.1 in
    omega (arith, none, len, rest)
at_end AtScriptEnd n bytes tail closing more l e h =
    let whole : bytes ≡ [] = e ∙ ap (λ k. k ++ closing ++ more) h.0 ∙ ap (λ k. k ++ more) h.1 ∙ h.2 in
    let none = passed-none bit_front n bytes (ap bit_front whole) in
    let len = ap length whole in
    let rest = ap length (ap (λ k. k ++ more) h.1 ∙ h.2) in
    omega (arith, none, len, rest)
at_end Unterminated n bytes tail closing more l e h =
    let nothing : closing ++ more ≡ [] = ap (λ k. k ++ more) h.1 ∙ h.2 in
    let same : bytes ≡ tail = e ∙ ap (λ k. tail ++ k ++ more) h.1 ∙ ap (λ k. tail ++ [] ++ k) h.2 ∙ append-nil (tail ++ []) ∙ append-nil tail in
    let step = passed-step bit_front n bytes tail [] l (same ∙ sym (append-nil tail)) (open_some tail h.0) (ap bit_front same ∙ open_is tail h.0) in
    let none = passed-none bit_front (n - 1) [] refl in
    let len = ap length same in
    let rest = ap length nothing in
    omega (arith, step, none, len, rest)

statement_only : (bits : List (List ℕ)) (n : ℕ) (bytes tail closing more : List ℕ) (how : StatementEnd) → length bytes ≤ n → Bits bits bytes (tail ++ closing ++ more) → EndsBy how tail closing more
    → passed bit_front n bytes + length (closing ++ more) ≡ length bytes
statement_only [] n bytes tail closing more how l s h = at_end how n bytes tail closing more l s h
statement_only (t ∷ ts) n bytes tail closing more how l s h =
    let next = s.1 in
    let len = ap length s.2 ∙ length-append t next in
    let some = bit_some s.0 t next s.3 in
    let step = passed-step bit_front n bytes t next l s.2 some (ap bit_front s.2 ∙ bit_is s.0 t next s.3) in
    let rest = statement_only ts (n - 1) next tail closing more how (omega (arith, l, len, some)) s.4 h in
    omega (arith, step, rest, len)

-- where such a piece ends is found
pub statement_is : (text closing more : List ℕ) → EndsAsStatement text closing more → statement_length (text ++ closing ++ more) ≡ length text
statement_is text closing more e =
    let bytes = text ++ closing ++ more in
    let l : length bytes ≤ length bytes = omega arith in
    let all = statement_only e.bits (length bytes) bytes e.tail closing more e.how l e.stand e.ends in
    let len = ap length (append_assoc text closing more) ∙ length-append text (closing ++ more) in
    omega (arith, all, len)

-- what closes it: a semicolon, or the script's end
pub closed_by : (how : StatementEnd) (tail closing more : List ℕ) → EndsBy how tail closing more → (closing ≡ 59 ∷ []) ⊎ ((closing ≡ []) × (more ≡ []))
closed_by AtSemicolon tail closing more h = inl h.1
closed_by AtScriptEnd tail closing more h = inr (h.1, h.2)
closed_by Unterminated tail closing more h = inr (h.1, h.2)
