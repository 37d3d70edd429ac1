-- The comment and the blank in front: what `comment_front` and `blank_front` find, and that they find each.
use Rattle.std.proofs.Common.{ℕ, ◌≡◌, ◌<◌, ◌+◌, Bool, true, false, ◌&&◌, List, [], ◌∷◌, ◌++◌, length, get_or, take, drop, refl, ap, ◌∙◌, sym, arith, subst, Option, Some, None, append_assoc, inl, inr, ◌⊎◌}
use Rattle.std.proofs.lemmas.Bool.{and_parts, and_left, and_right, or_from, or_parts, eqb-true, false≢true, cond-true, cond-false, cond_both, not-true}
use Rattle.std.proofs.lemmas.List.{length-append, take-append-drop}
use Rattle.std.proofs.lemmas.List.Folds.{length-prefix_len}
use Rattle.std.specs.List.{prefix_len, list_all}
use Rattle.ebr_base.specs.Word.{is_white}
use Rattle.ebr_lexer.specs.Lexis.{first_is, in_line, begins, has_end, IsLineComment, IsBlockComment}
use Rattle.ebr_lexer.specs.Extents.{comment_length}
use Rattle.ebr_lexer.proofs.Runs.{prefix_all, prefix_ends, prefix_whole}
use Rattle.ebr_lexer.proofs.Strings.{CommentAt, comment_at, comment_found, comment_none}
use Rattle.ebr_cut.specs.Lines.{fresh_behind, fresh_after}
use Rattle.ebr_cut.specs.Sections.{Blank, White, LineComment, BlockComment, IsBlank, begins_whole_comment}
use Rattle.ebr_cut.specs.Reading.{with_opening, comment_front, blank_front}

abbrev pub IsComment : List ℕ → List ℕ → Type 0
IsComment text more = IsLineComment text more ⊎ IsBlockComment text

-- a comment of n bytes stands in front
pub record Comment (n : ℕ) (bytes : List ℕ) : Type 0 where
  pub text : List ℕ
  pub more : List ℕ
  pub split : bytes ≡ text ++ more
  pub fits : IsComment text more
  pub long : n ≡ length text

pub begins_is : (x y : ℕ) (bytes : List ℕ) → begins x y bytes ≡ true → bytes ≡ x ∷ y ∷ drop 2 bytes
begins_is x y [] h = absurd (false≢true h)
begins_is x y (a ∷ []) h = absurd (false≢true h)
begins_is x y (a ∷ b ∷ bs) h =
    let p = and_parts _ _ h in
    ap (λ k. k ∷ b ∷ bs) (eqb-true a x p.0) ∙ ap (λ k. x ∷ k ∷ bs) (eqb-true b y p.1)

line_in_front : (bytes rest : List ℕ) → bytes ≡ 45 ∷ 45 ∷ rest → Comment (prefix_len in_line rest + 2) bytes
line_in_front bytes rest e =
    let n = prefix_len in_line rest in
    let l : length (take n rest) ≡ n = length-prefix_len in_line rest in
    record {
      text = 45 ∷ 45 ∷ take n rest;
      more = drop n rest;
      split = e ∙ ap (λ k. 45 ∷ 45 ∷ k) (sym (take-append-drop n rest));
      fits = inl (record { body = take n rest; spelled = refl; run = record { all = prefix_all in_line rest; ends = prefix_ends in_line rest } });
      long = omega (arith, l);
    }

block_in_front : (bytes rest : List ℕ) (r : Option ℕ) → bytes ≡ 47 ∷ 42 ∷ rest → CommentAt false 0 rest r → 0 < with_opening 2 0 r → Comment (with_opening 2 0 r) bytes
block_in_front bytes rest None e s l = absurd (omega (arith, l))
block_in_front bytes rest (Some m) e s l =
    let len : length (s.0 ++ 47 ∷ []) ≡ length s.0 + 1 = length-append s.0 (47 ∷ []) in
    let long = s.5 in
    record {
      text = 47 ∷ 42 ∷ s.0 ++ 47 ∷ [];
      more = s.1;
      split = e ∙ ap (λ k. 47 ∷ 42 ∷ k) (s.2 ∙ sym (append_assoc s.0 (47 ∷ []) s.1));
      fits = inr (record { body = s.0; spelled = refl; none = s.3; ends = s.4 });
      long = omega (arith, len, long);
    }

-- what is found is a comment
pub comment_sound : (bytes : List ℕ) → 0 < comment_front bytes → Comment (comment_front bytes) bytes
comment_sound bytes =
    cond_both (begins 45 45 bytes) _ _ (λ n. 0 < n → Comment n bytes) (λ e l. line_in_front bytes (drop 2 bytes) (begins_is 45 45 bytes e))
    (λ e. cond_both (begins 47 42 bytes) _ _ (λ n. 0 < n → Comment n bytes)
    (λ c l. block_in_front bytes (drop 2 bytes) (comment_length false 0 (drop 2 bytes)) (begins_is 47 42 bytes c) (comment_at (drop 2 bytes) false 0) l)
    (λ c l. absurd (omega (arith, l))))

-- each comment is found
pub comment_is : (text more : List ℕ) → IsComment text more → comment_front (text ++ more) ≡ length text
comment_is text more (inl h) =
    let len = ap length h.spelled in
    ap (λ (k : List ℕ). comment_front (k ++ more)) h.spelled ∙ ap (λ n. n + 2) (prefix_whole in_line h.body more h.run.all h.run.ends) ∙ (omega (arith, len))
comment_is text more (inr h) =
    let inner = length-append h.body (47 ∷ []) in
    let len = ap length h.spelled in
    let whole : text ++ more ≡ 47 ∷ 42 ∷ h.body ++ 47 ∷ more = ap (λ k. k ++ more) h.spelled ∙ ap (λ k. 47 ∷ 42 ∷ k) (append_assoc h.body (47 ∷ []) more) in
    ap comment_front whole ∙ ap (with_opening 2 0) (comment_found h.body more false 0 h.none h.ends) ∙ (omega (arith, inner, len))

pub comment_some : (text more : List ℕ) → IsComment text more → 0 < length text
comment_some text more (inl h) = let len = ap length h.spelled in omega (arith, len)
comment_some text more (inr h) = let len = ap length h.spelled in omega (arith, len)

-- none is found where none with its end stands in front
none_by : (rest : List ℕ) (r : Option ℕ) → CommentAt false 0 rest r → with_opening 2 0 r ≡ 0 → has_end false rest ≡ false
none_by rest None s z = s
none_by rest (Some m) s z = absurd (omega (arith, z))

pub whole_none : (bytes : List ℕ) → comment_front bytes ≡ 0 → begins_whole_comment bytes ≡ false
whole_none bytes =
    cond_both (begins 45 45 bytes) _ _ (λ n. n ≡ 0 → begins_whole_comment bytes ≡ false) (λ e z. absurd (omega (arith, z)))
    (λ e. cond_both (begins 47 42 bytes) _ _ (λ n. n ≡ 0 → begins_whole_comment bytes ≡ false)
    (λ c z. or_from _ _ e (and_right (begins 47 42 bytes) _ (none_by (drop 2 bytes) (comment_length false 0 (drop 2 bytes)) (comment_at (drop 2 bytes) false 0) z)))
    (λ c z. or_from _ _ e (and_left _ _ c)))

pub none_whole : (bytes : List ℕ) → begins_whole_comment bytes ≡ false → comment_front bytes ≡ 0
none_whole bytes h =
    let p = or_parts _ _ h in
    cond-false (begins 45 45 bytes) _ _ p.0
    ∙ cond_both (begins 47 42 bytes) _ _ (λ n. n ≡ 0)
    (λ e. ap (with_opening 2 0) (comment_none (drop 2 bytes) false 0 (subst (λ b. (b && has_end false (drop 2 bytes)) ≡ false) e p.1))) (λ e. refl)

-- A line doesn't stay fresh behind a byte that isn't white, nor behind a comment.
pub stale_by : (fresh : Bool) (b : ℕ) → is_white b ≡ false → fresh_behind fresh b ≡ false
unfolding is_white
stale_by fresh b w = or_from _ _ (or_parts _ _ w).1 (and_right fresh _ w)

line_stale : (bytes : List ℕ) → list_all in_line bytes ≡ true → fresh_after false bytes ≡ false
line_stale [] h = refl
line_stale (b ∷ bs) h =
    let p = and_parts _ _ h in
    let e : fresh_behind false b ≡ false = or_from _ _ (not-true _ p.0) refl in
    ap (λ f. fresh_after f bs) e ∙ line_stale bs p.1

pub fresh_after-push : (xs : List ℕ) (fresh : Bool) (b : ℕ) → fresh_after fresh (xs ++ b ∷ []) ≡ fresh_behind (fresh_after fresh xs) b
fresh_after-push [] fresh b = refl
fresh_after-push (x ∷ xs) fresh b = fresh_after-push xs (fresh_behind fresh x) b

dash-black : is_white 45 ≡ false
unfolding is_white
dash-black = refl

pub slash-black : is_white 47 ≡ false
unfolding is_white
slash-black = refl

comment_stale : (fresh : Bool) (text more : List ℕ) → IsComment text more → fresh_after fresh text ≡ false
comment_stale fresh text more (inl h) =
    ap (fresh_after fresh) h.spelled ∙ ap (λ f. fresh_after (fresh_behind f 45) h.body) (stale_by fresh 45 dash-black)
    ∙ ap (λ f. fresh_after f h.body) (stale_by false 45 dash-black) ∙ line_stale h.body h.run.all
comment_stale fresh text more (inr h) =
    ap (fresh_after fresh) h.spelled ∙ fresh_after-push (47 ∷ 42 ∷ h.body) fresh 47 ∙ stale_by (fresh_after fresh (47 ∷ 42 ∷ h.body)) 47 slash-black

-- a blank of n bytes stands in front, of which the first is b
pub record Blanked (n b : ℕ) (bytes : List ℕ) : Type 0 where
  pub kind : Blank
  pub text : List ℕ
  pub more : List ℕ
  pub split : bytes ≡ text ++ more
  pub fits : IsBlank kind text more
  pub long : n ≡ length text
  pub fresh : (f : Bool) → fresh_behind f b ≡ fresh_after f text

comment_blank : (n b : ℕ) (bs text more : List ℕ) → is_white b ≡ false → b ∷ bs ≡ text ++ more → n ≡ length text → IsComment text more → Blanked n b (b ∷ bs)
comment_blank n b bs text more w split long (inl h) = record {
  kind = LineComment;
  text = text;
  more = more;
  split = split;
  fits = h;
  long = long;
  fresh = λ f. stale_by f b w ∙ sym (comment_stale f text more (inl h));
}
comment_blank n b bs text more w split long (inr h) = record {
  kind = BlockComment;
  text = text;
  more = more;
  split = split;
  fits = h;
  long = long;
  fresh = λ f. stale_by f b w ∙ sym (comment_stale f text more (inr h));
}

-- what is found is a blank
pub blank_sound : (b : ℕ) (bs : List ℕ) → 0 < blank_front (b ∷ bs) → Blanked (blank_front (b ∷ bs)) b (b ∷ bs)
blank_sound b bs =
    cond_both (is_white b) _ _ (λ n. 0 < n → Blanked n b (b ∷ bs))
    (λ w l. record { kind = White; text = b ∷ []; more = bs; split = refl; fits = (b, refl, w); long = refl; fresh = λ f. refl })
    (λ w l. let c = comment_sound (b ∷ bs) l in comment_blank _ b bs c.text c.more w c.split c.long c.fits)

blank_other : (bytes : List ℕ) → first_is is_white bytes ≡ false → blank_front bytes ≡ comment_front bytes
blank_other [] w = refl
blank_other (b ∷ bs) w = cond-false (is_white b) _ _ w

comment_black : (text more : List ℕ) → IsComment text more → first_is is_white (text ++ more) ≡ false
comment_black text more (inl h) = ap (λ (k : List ℕ). first_is is_white (k ++ more)) h.spelled ∙ dash-black
comment_black text more (inr h) = ap (λ (k : List ℕ). first_is is_white (k ++ more)) h.spelled ∙ slash-black

comment_front_blank : (text more : List ℕ) → IsComment text more → blank_front (text ++ more) ≡ length text
comment_front_blank text more h = blank_other (text ++ more) (comment_black text more h) ∙ comment_is text more h

-- each blank is found
pub blank_is : (kind : Blank) (text more : List ℕ) → IsBlank kind text more → blank_front (text ++ more) ≡ length text
blank_is White text more h = ap (λ (k : List ℕ). blank_front (k ++ more)) h.1 ∙ cond-true (is_white h.0) _ _ h.2 ∙ sym (ap length h.1)
blank_is LineComment text more h = comment_front_blank text more (inl h)
blank_is BlockComment text more h = comment_front_blank text more (inr h)

pub blank_some : (kind : Blank) (text more : List ℕ) → IsBlank kind text more → 0 < length text
blank_some White text more h = let len = ap length h.1 in omega (arith, len)
blank_some LineComment text more h = comment_some text more (inl h)
blank_some BlockComment text more h = comment_some text more (inr h)

comment_fresh : (text more : List ℕ) (fresh : Bool) → IsComment text more → fresh_behind fresh (get_or (text ++ more) 0 0) ≡ fresh_after fresh text
comment_fresh text more fresh (inl h) = ap (λ (k : List ℕ). fresh_behind fresh (get_or (k ++ more) 0 0)) h.spelled ∙ stale_by fresh 45 dash-black ∙ sym (comment_stale fresh text more (inl h))
comment_fresh text more fresh (inr h) = ap (λ (k : List ℕ). fresh_behind fresh (get_or (k ++ more) 0 0)) h.spelled ∙ stale_by fresh 47 slash-black ∙ sym (comment_stale fresh text more (inr h))

-- the first byte tells whether the line stays fresh behind a blank
pub blank_fresh : (kind : Blank) (text more : List ℕ) (fresh : Bool) → IsBlank kind text more → fresh_behind fresh (get_or (text ++ more) 0 0) ≡ fresh_after fresh text
blank_fresh White text more fresh h = ap (λ (k : List ℕ). fresh_behind fresh (get_or (k ++ more) 0 0)) h.1 ∙ sym (ap (fresh_after fresh) h.1)
blank_fresh LineComment text more fresh h = comment_fresh text more fresh (inl h)
blank_fresh BlockComment text more fresh h = comment_fresh text more fresh (inr h)

-- none is found where none stands in front
pub none_white : (bytes : List ℕ) → blank_front bytes ≡ 0 → first_is is_white bytes ≡ false
none_white [] z = refl
none_white (b ∷ bs) z = cond_both (is_white b) _ _ (λ n. n ≡ 0 → is_white b ≡ false) (λ w z. absurd (omega (arith, z))) (λ w z. w) z

pub none_comment : (bytes : List ℕ) → blank_front bytes ≡ 0 → begins_whole_comment bytes ≡ false
none_comment bytes z = whole_none bytes (sym (blank_other bytes (none_white bytes z)) ∙ z)

pub none_blank : (bytes : List ℕ) → first_is is_white bytes ≡ false → begins_whole_comment bytes ≡ false → blank_front bytes ≡ 0
none_blank bytes w c = blank_other bytes w ∙ none_whole bytes c
