-- How many bytes of blanks stand in front of each rest of a script, told from its end.
use Rattle.std.proofs.Common.{ℕ, zero, suc, ◌≡◌, ◌<◌, ◌≤◌, ◌-◌, ◌+◌, Bool, true, false, ◌&&◌, cond, List, [], ◌∷◌, ◌++◌, map, length, get_or, take, drop, refl, ap, ◌∙◌, sym, arith, subst, Option, Some, None, IfSome, ◌==◌, inl, inr, ◌⊎◌}
use Rattle.std.proofs.lemmas.Bool.{and_parts, cond-true, cond-false, cond_both, cases_lt}
use Rattle.std.proofs.lemmas.List.{length-append, length-drop, drop-drop, nil_from_length, get_or_append_left}
use Rattle.std.proofs.lemmas.List.Folds.{length-prefix_len}
use Rattle.std.proofs.Math.Seq.{get_or-append_seam}
use Rattle.std.proofs.Math.ListN.{drop_of_length-le}
use Rattle.std.specs.List.{prefix_len}
use Rattle.std.specs.Str.{bytes_eq}
use Rattle.ebr_base.specs.Word.{is_word_byte, is_white, upper}
use Rattle.ebr_lexer.specs.Lexis.{in_line, begins, is_star, is_slash}
use Rattle.ebr_lexer.specs.Extents.{comment_length}
use Rattle.ebr_lexer.proofs.Strings.{CommentAt, comment_at}
use Rattle.ebr_cut.specs.Reading.{with_opening, comment_front, blank_front, passed, blanks_length, is_spelled}
use Rattle.ebr_cut.specs.inside.Ahead.{one_more, end_behind, Knows, Sees}
use Rattle.ebr_cut.proofs.Passed.{passed-zero, passed-suc, passed-none}
use Rattle.ebr_cut.proofs.Blanks.{begins_is, blank_sound}
use Rattle.ebr_cut.proofs.Words.{eq_from, length-map}

blank_by : (n b : ℕ) (bs : List ℕ) → blank_front (b ∷ bs) ≡ n → n ≤ length (b ∷ bs)
blank_by zero b bs e = omega arith
blank_by (suc n) b bs e =
    let w = blank_sound b bs (omega (arith, e)) in
    let len = ap length w.split ∙ length-append w.text w.more in
    let long = w.long in
    omega (arith, len, long, e)

pub blank_within : (bytes : List ℕ) → blank_front bytes ≤ length bytes
blank_within [] = omega arith
blank_within (b ∷ bs) = blank_by (blank_front (b ∷ bs)) b bs refl

-- Where the steps are enough, more change nothing.
enough_by : (m n k : ℕ) (bytes : List ℕ) → blank_front bytes ≡ m → length bytes ≤ suc n → length bytes ≤ k
    → ((j : ℕ) (rest : List ℕ) → length rest ≤ n → length rest ≤ j → passed blank_front n rest ≡ passed blank_front j rest) → passed blank_front (suc n) bytes ≡ passed blank_front k bytes
enough_by zero n k bytes e l h ih = passed-none blank_front (suc n) bytes e ∙ sym (passed-none blank_front k bytes e)
enough_by (suc m) n k bytes e l h ih =
    let within = blank_within bytes in
    let one : suc n ≡ n + 1 = omega arith in
    let other : k ≡ k - 1 + 1 = omega (arith, within, e, h) in
    let rest = drop (blank_front bytes) bytes in
    let len = length-drop (blank_front bytes) bytes in
    passed-suc blank_front (suc n) n bytes one ∙ ap (λ j. blank_front bytes + j) (ih (k - 1) rest (omega (arith, len, l, e, within)) (omega (arith, len, h, e, within)))
    ∙ sym (passed-suc blank_front k (k - 1) bytes other)

enough : (n k : ℕ) (bytes : List ℕ) → length bytes ≤ n → length bytes ≤ k → passed blank_front n bytes ≡ passed blank_front k bytes
enough zero k bytes l h =
    let none : blank_front bytes ≡ 0 = ap blank_front (nil_from_length bytes (omega (arith, l))) in
    passed-none blank_front zero bytes none ∙ sym (passed-none blank_front k bytes none)
enough (suc n) k bytes l h = enough_by (blank_front bytes) n k bytes refl l h (enough n)

-- the blanks in front are the first one and those behind it
pub blanks_more : (bytes : List ℕ) (m : ℕ) → m ≡ blank_front bytes → 0 < m → blanks_length bytes ≡ m + blanks_length (drop m bytes)
blanks_more bytes m e l =
    let within = blank_within bytes in
    let n = length bytes in
    let one : n ≡ n - 1 + 1 = omega (arith, within, e, l) in
    let rest = drop (blank_front bytes) bytes in
    let len = length-drop (blank_front bytes) bytes in
    let step = passed-suc blank_front n (n - 1) bytes one ∙ ap (λ j. blank_front bytes + j) (enough (n - 1) (length rest) rest (omega (arith, len, e, l, within)) (omega arith)) in
    step ∙ ap (λ k. k + blanks_length (drop k bytes)) (sym e)

passed_by : (n : ℕ) (bytes : List ℕ) → passed blank_front n bytes ≤ length bytes
passed_by zero bytes = let none = passed-zero blank_front zero bytes refl in omega (arith, none)
passed_by (suc n) bytes =
    let one : suc n ≡ n + 1 = omega arith in
    let step = passed-suc blank_front (suc n) n bytes one in
    let within = blank_within bytes in
    let len = length-drop (blank_front bytes) bytes in
    let rest = passed_by n (drop (blank_front bytes) bytes) in
    omega (arith, step, within, len, rest)

pub blanks_within : (bytes : List ℕ) → blanks_length bytes ≤ length bytes
blanks_within bytes = passed_by (length bytes) bytes

-- the blank in front, by what stands ahead of the next byte
pub front_white : (bytes : List ℕ) → 0 < length bytes → is_white (get_or bytes 0 0) ≡ true → blank_front bytes ≡ 1
front_white [] l w = absurd (omega (arith, l))
front_white (b ∷ bs) l w = cond-true (is_white b) _ _ w

pub front_black : (bytes : List ℕ) → is_white (get_or bytes 0 0) ≡ false → blank_front bytes ≡ comment_front bytes
front_black [] w = refl
front_black (b ∷ bs) w = cond-false (is_white b) _ _ w

pub front_line : (bytes : List ℕ) (n : ℕ) → is_white (get_or bytes 0 0) ≡ false → begins 45 45 bytes ≡ true → n ≡ prefix_len in_line (drop 1 bytes) → blank_front bytes ≡ n + 1
front_line bytes n w e h =
    let line : prefix_len in_line (drop 1 bytes) ≡ 1 + prefix_len in_line (drop 2 bytes) = ap (λ (k : List ℕ). prefix_len in_line (drop 1 k)) (begins_is 45 45 bytes e) in
    front_black bytes w ∙ cond-true (begins 45 45 bytes) _ _ e ∙ (omega (arith, line, h))

pub front_block : (bytes : List ℕ) (r : Option ℕ) → is_white (get_or bytes 0 0) ≡ false → begins 45 45 bytes ≡ false → begins 47 42 bytes ≡ true → r ≡ comment_length false 0 (drop 1 (drop 1 bytes))
    → blank_front bytes ≡ with_opening 2 0 r
front_block bytes r w e f h =
    front_black bytes w ∙ cond-false (begins 45 45 bytes) _ _ e ∙ cond-true (begins 47 42 bytes) _ _ f
    ∙ ap (λ (k : List ℕ). with_opening 2 0 (comment_length false 0 k)) (sym (drop-drop 1 1 bytes)) ∙ ap (with_opening 2 0) (sym h)

pub front_none : (bytes : List ℕ) → is_white (get_or bytes 0 0) ≡ false → begins 45 45 bytes ≡ false → begins 47 42 bytes ≡ false → blank_front bytes ≡ 0
front_none bytes w e f = front_black bytes w ∙ cond-false (begins 45 45 bytes) _ _ e ∙ cond-false (begins 47 42 bytes) _ _ f

-- how far the next end is
pub end_within : (bytes : List ℕ) (r : Option ℕ) → CommentAt false 0 bytes r → IfSome r (λ n. n ≤ length bytes)
end_within bytes None s = tt
end_within bytes (Some m) s = let len = ap length s.2 ∙ length-append s.0 (47 ∷ s.1) in let long = s.5 in omega (arith, len, long)

pub end_small : (limit : ℕ) (bytes : List ℕ) (r : Option ℕ) → r ≡ comment_length false 0 bytes → length bytes < limit → IfSome r (λ n. n < limit)
end_small limit bytes r e l = small_by r (length bytes) (end_within bytes r (subst (CommentAt false 0 bytes) (sym e) (comment_at bytes false 0))) l where
  small_by : (r : Option ℕ) (n : ℕ) → IfSome r (λ m. m ≤ n) → n < limit → IfSome r (λ m. m < limit)
  small_by None n h l = tt
  small_by (Some m) n h l = omega (arith, h, l)

-- what stands ahead, one byte further in front
shifted_by : (x : Bool) (n : ℕ) (r s : Option ℕ) → r ≡ one_more s → cond x (Some (suc (suc n))) r ≡ one_more (cond x (Some (suc n)) s)
shifted_by true n r s e = ap Some (omega arith)
shifted_by false n r s e = e

shifted : (bytes : List ℕ) (star : Bool) (n : ℕ) → comment_length star (suc n) bytes ≡ one_more (comment_length star n bytes)
shifted [] star n = refl
shifted (b ∷ bs) star n = shifted_by (star && is_slash b) n _ _ (shifted bs (is_star b) (suc n))

end_by : (x : Bool) (r s : Option ℕ) → r ≡ one_more s → cond x (Some 2) r ≡ cond x (Some 2) (one_more s)
end_by true r s e = refl
end_by false r s e = e

pub end_more : (bytes : List ℕ) → end_behind bytes (comment_length false 0 (drop 1 bytes)) ≡ comment_length false 0 bytes
end_more [] = refl
end_more (b ∷ []) = refl
end_more (b ∷ c ∷ cs) = sym (end_by (is_star b && is_slash c) _ _ (shifted cs (is_star c) 1))

pub line_more : (bytes : List ℕ) (n : ℕ) → 0 < length bytes → n ≡ prefix_len in_line (drop 1 bytes) → cond (in_line (get_or bytes 0 0)) (n + 1) 0 ≡ prefix_len in_line bytes
line_more [] n l e = absurd (omega (arith, l))
line_more (b ∷ bs) n l e = ap (λ k. cond (in_line b) k 0) (omega (arith, e))

prefix_within : (p : ℕ → Bool) (xs : List ℕ) → prefix_len p xs ≤ length xs
prefix_within p [] = omega arith
prefix_within p (x ∷ xs) = let h = prefix_within p xs in cond_both (p x) (1 + prefix_len p xs) 0 (λ n. n ≤ length (x ∷ xs)) (λ e. omega (arith, h)) (λ e. omega arith)

pub line_within : (bytes : List ℕ) (n : ℕ) → 0 < length bytes → n ≡ prefix_len in_line (drop 1 bytes) → n < length bytes
line_within bytes n l e =
    let rest = drop 1 bytes in
    let within = prefix_within in_line rest in
    let len = length-drop 1 bytes in
    omega (arith, e, within, len, l)

-- the lengths of the rests of a rest are those of the whole
pub knows_rest : (lengths bytes rest : List ℕ) (j : ℕ) → Knows lengths bytes → rest ≡ drop j bytes → j ≤ length bytes → Knows lengths rest
knows_rest lengths bytes rest j h d l =
    let n = length bytes in
    let long = h.long in
    let len = length-drop j bytes in
    subst (Knows lengths) (sym d)
    (record {
      long = omega (arith, long, len);
      each = λ k le.
          let m = length (drop j bytes) in
          let place : j + (m - k) ≡ n - k = omega (arith, len, le, l) in
          h.each k (omega (arith, le, len)) ∙ ap (λ (q : List ℕ). blanks_length q) (ap (λ i. drop i bytes) (sym place) ∙ sym (drop-drop (m - k) j bytes));
    })

pub knows_at : (lengths bytes : List ℕ) → Knows lengths bytes → get_or lengths (length bytes) 0 ≡ blanks_length bytes
knows_at lengths bytes h =
    let n = length bytes in
    let zero' : n - n ≡ 0 = omega arith in
    h.each n (omega arith) ∙ ap (λ i. blanks_length (drop i bytes)) zero'

-- what is known of the last bytes of a script
abbrev pub KnowsLast : ℕ → List ℕ → List ℕ → Type 0
KnowsLast i lengths script = (k : ℕ) → k ≤ i → get_or lengths k 0 ≡ blanks_length (drop (length script - k) script)

pub knows_last : (i : ℕ) (lengths script rest : List ℕ) → KnowsLast i lengths script → length lengths ≡ i + 1 → i ≤ length script → rest ≡ drop (length script - i) script → Knows lengths rest
knows_last i lengths script rest h long l d =
    let n = length script in
    let len = length-drop (n - i) script in
    subst (Knows lengths) (sym d)
    (record {
      long = omega (arith, long, len, l);
      each = λ k le.
          let m = length (drop (n - i) script) in
          let place : n - i + (m - k) ≡ n - k = omega (arith, len, le, l) in
          h k (omega (arith, le, len, l)) ∙ ap (λ (q : List ℕ). blanks_length q) (ap (λ j. drop j script) (sym place) ∙ sym (drop-drop (m - k) (n - i) script));
    })

pub knows_more : (i x : ℕ) (lengths more script : List ℕ) → KnowsLast i lengths script → length lengths ≡ i + 1 → more ≡ lengths ++ x ∷ [] → x ≡ blanks_length (drop (length script - (i + 1)) script)
    → KnowsLast (i + 1) more script
knows_more i x lengths more script h long m e k le = by_case (cases_lt k (i + 1)) where
  by_case : (k < i + 1) ⊎ (i + 1 ≤ k) → get_or more k 0 ≡ blanks_length (drop (length script - k) script)
  by_case (inl l) = ap (λ (q : List ℕ). get_or q k 0) m ∙ get_or_append_left lengths (x ∷ []) 0 k (omega (arith, l, long)) ∙ h k (omega (arith, l))
  by_case (inr l) =
      let here : k ≡ i + 1 = omega (arith, l, le) in
      let last : k ≡ length lengths = omega (arith, here, long) in
      ap (λ (q : List ℕ). get_or q k 0) m ∙ ap (λ j. get_or (lengths ++ x ∷ []) j 0) last ∙ get_or-append_seam lengths x [] 0 ∙ e ∙ ap (λ j. blanks_length (drop (length script - j) script)) (sym here)

pub knows_none : (lengths script : List ℕ) → lengths ≡ 0 ∷ [] → KnowsLast 0 lengths script
knows_none lengths script e k le =
    let none : k ≡ 0 = omega (arith, le) in
    let at : drop (length script - k) script ≡ [] = drop_of_length-le script (omega (arith, none)) in
    ap (λ (q : List ℕ). get_or q k 0) e ∙ ap (λ j. get_or (0 ∷ []) j 0) none ∙ sym (ap (λ (q : List ℕ). blanks_length q) at ∙ passed-zero blank_front 0 [] refl)

pub sees_none : (script : List ℕ) → Sees (drop (length script - 0) script) (record { line = 0; end = None; later = None })
sees_none script =
    let at : drop (length script - 0) script ≡ [] = drop_of_length-le script (omega arith) in
    subst (λ (k : List ℕ). Sees k (record { line = 0; end = None; later = None })) (sym at) (record { line = refl; end = refl; later = refl })

pub one_back : (script rest : List ℕ) (i : ℕ) → i < length script → rest ≡ drop (length script - 1 - i) script → drop 1 rest ≡ drop (length script - i) script
one_back script rest i l e =
    let place : length script - 1 - i + 1 ≡ length script - i = omega (arith, l) in
    ap (drop 1) e ∙ drop-drop 1 (length script - 1 - i) script ∙ ap (λ j. drop j script) place

pub known_at : (lengths rest : List ℕ) (m : ℕ) → Knows lengths (drop 1 rest) → 0 < m → m ≤ length rest → get_or lengths (length rest - m) 0 ≡ blanks_length (drop m rest)
known_at lengths rest m h l w =
    let len = length-drop 1 rest in
    let k = length rest - m in
    let place : 1 + (length (drop 1 rest) - k) ≡ m = omega (arith, len, l, w) in
    h.each k (omega (arith, len, l, w)) ∙ ap (λ (q : List ℕ). blanks_length q) (drop-drop (length (drop 1 rest) - k) 1 rest ∙ ap (λ j. drop j rest) place)

pub positive : (m : ℕ) → (m ≡ 0 → ⊥) → 0 < m
positive zero h = absurd (h refl)
positive (suc m) h = omega arith

pub no_blanks : (bytes : List ℕ) (m : ℕ) → m ≡ blank_front bytes → m ≡ 0 → 0 ≡ blanks_length bytes
no_blanks bytes m e z = sym (passed-none blank_front (length bytes) bytes (sym e ∙ z))

at_some : (r : Option ℕ) (n m : ℕ) → r ≡ Some n → IfSome r (λ k. k ≤ m) → n ≤ m
at_some r n m e h = subst (λ k. IfSome k (λ j. j ≤ m)) e h

pub later_within : (bytes : List ℕ) (r : Option ℕ) (n : ℕ) → r ≡ Some n → r ≡ comment_length false 0 (drop 1 (drop 1 bytes)) → 2 ≤ length bytes → n + 2 ≤ length bytes
later_within bytes r n e h l =
    let rest = drop 1 (drop 1 bytes) in
    let one = length-drop 1 bytes in
    let two = length-drop 1 (drop 1 bytes) in
    let within = at_some r n (length rest) e (end_within rest r (subst (CommentAt false 0 rest) (sym h) (comment_at rest false 0))) in
    omega (arith, one, two, within, l)

-- One byte more than the word has is enough to look at.
bounded_by : (x y : ℕ) (xs ys : List ℕ) (b : Bool) (n m : ℕ) → bytes_eq (map upper (take n xs)) ys ≡ bytes_eq (map upper (take m xs)) ys
    → bytes_eq (map upper (take (cond b (1 + n) 0) (x ∷ xs))) (y ∷ ys) ≡ bytes_eq (map upper (take (cond b (1 + m) 0) (x ∷ xs))) (y ∷ ys)
bounded_by x y xs ys true n m h =
    let s : 1 + n ≡ suc n = omega arith in
    let t : 1 + m ≡ suc m = omega arith in
    rw (s, t) (ap (λ k. (upper x == y) && k) h)
bounded_by x y xs ys false n m h = refl

alone_by : (x : ℕ) (xs : List ℕ) (b : Bool) (n m : ℕ) → bytes_eq (map upper (take (cond b (1 + n) 0) (x ∷ xs))) [] ≡ bytes_eq (map upper (take (cond b (1 + m) 0) (x ∷ xs))) []
alone_by x xs true n m =
    let s : 1 + n ≡ suc n = omega arith in
    let t : 1 + m ≡ suc m = omega arith in
    rw (s, t) refl
alone_by x xs false n m = refl

bound : (word bytes : List ℕ) → bytes_eq (map upper (take (prefix_len is_word_byte bytes) bytes)) word ≡ bytes_eq (map upper (take (prefix_len is_word_byte (take (suc (length word)) bytes)) bytes)) word
bound word [] = refl
bound [] (x ∷ xs) = alone_by x xs (is_word_byte x) (prefix_len is_word_byte xs) 0
bound (y ∷ ys) (x ∷ xs) = bounded_by x y xs ys (is_word_byte x) (prefix_len is_word_byte xs) (prefix_len is_word_byte (take (suc (length ys)) xs)) (bound ys xs)

pub bounded : (word bytes : List ℕ) (c : ℕ) → c ≡ length word + 1
    → bytes_eq (map upper (take (prefix_len is_word_byte bytes) bytes)) word ≡ bytes_eq (map upper (take (prefix_len is_word_byte (take c bytes)) bytes)) word
bounded word bytes c e =
    let one : suc (length word) ≡ c = omega (arith, e) in
    bound word bytes ∙ ap (λ k. bytes_eq (map upper (take (prefix_len is_word_byte (take k bytes)) bytes)) word) one

pub spelled_long : (word bytes : List ℕ) → is_spelled word bytes ≡ true → prefix_len is_word_byte bytes ≡ length word
spelled_long word bytes e =
    let m = prefix_len is_word_byte bytes in
    let p = and_parts _ _ e in
    sym (length-prefix_len is_word_byte bytes) ∙ sym (length-map (take m bytes)) ∙ ap length (eq_from _ _ p.1)
