-- What `string_length` and `comment_length` find.
use Rattle.std.proofs.Common.{ℕ, suc, ◌≡◌, ◌+◌, Bool, true, false, ◌&&◌, ◌||◌, not, cond, List, [], ◌∷◌, ◌++◌, length, refl, ap, ◌∙◌, sym, arith, subst, Option, Some, None, append_assoc}
use Rattle.std.proofs.lemmas.List.{length-append}
use Rattle.std.proofs.lemmas.Bool.{and_parts, or_from, or_right, or_parts, eqb-true, false≢true, cond-true, cond-false, cond_both, not_from_false}
use Rattle.ebr_lexer.specs.Lexis.{first_is, is_quote, is_star, is_slash, quoted, doubled, has_end}
use Rattle.ebr_lexer.specs.Extents.{string_length, comment_length}
use Rattle.ebr_lexer.specs.Reading.{undoubled}

-- the bytes, with the quote before them that may be a doubled one
abbrev held : Bool → List ℕ → List ℕ
held true bs = 39 ∷ bs
held false bs = bs

abbrev count : Bool → ℕ
count true = 1
count false = 0

abbrev pub StringAt : Bool → ℕ → List ℕ → Option ℕ → Type 0
StringAt pending n bs None = (content : List ℕ) × (held pending bs ≡ doubled content)
StringAt pending n bs (Some m) =
    (content more : List ℕ) × (held pending bs ≡ doubled content ++ 39 ∷ more) × (first_is is_quote more ≡ false) × (m + count pending ≡ n + length (doubled content) + 1)

string_doubled : (n : ℕ) (bs : List ℕ) (r : Option ℕ) → StringAt false (suc n) bs r → StringAt true n (39 ∷ bs) r
string_doubled n bs None s = (39 ∷ s.0, ap (λ k. 39 ∷ 39 ∷ k) s.1)
string_doubled n bs (Some m) s = (39 ∷ s.0, s.1, ap (λ k. 39 ∷ 39 ∷ k) s.2, s.3, omega (arith, s.4))

string_opens : (n : ℕ) (bs : List ℕ) (r : Option ℕ) → StringAt true (suc n) bs r → StringAt false n (39 ∷ bs) r
string_opens n bs None s = s
string_opens n bs (Some m) s = (s.0, s.1, s.2, s.3, omega (arith, s.4))

quoted_plain : (b : ℕ) → is_quote b ≡ false → quoted b ≡ b ∷ []
quoted_plain b e = cond-false (is_quote b) _ _ e

string_plain : (n b : ℕ) (bs : List ℕ) (r : Option ℕ) → is_quote b ≡ false → StringAt false (suc n) bs r → StringAt false n (b ∷ bs) r
string_plain n b bs None e s = (b ∷ s.0, ap (λ k. b ∷ k) s.1 ∙ ap (λ k. k ++ doubled s.0) (sym (quoted_plain b e)))
string_plain n b bs (Some m) e s =
    let d : b ∷ doubled s.0 ≡ doubled (b ∷ s.0) = ap (λ k. k ++ doubled s.0) (sym (quoted_plain b e)) in
    (b ∷ s.0, s.1, ap (λ k. b ∷ k) s.2 ∙ ap (λ k. k ++ 39 ∷ s.1) d, s.3, subst (λ (k : List ℕ). m + 0 ≡ n + length k + 1) d (omega (arith, s.4)))

string_at_pending : (n b : ℕ) (bs : List ℕ) (q : Bool) → is_quote b ≡ q → StringAt false (suc n) bs (string_length false (suc n) bs)
    → StringAt true n (b ∷ bs) (cond (true && not q) (Some n) (string_length (q && not true) (suc n) bs))
string_at_pending n b bs true e s =
    subst (λ k. StringAt true n (k ∷ bs) (string_length false (suc n) bs)) (sym (eqb-true b 39 e)) (string_doubled n bs (string_length false (suc n) bs) s)
string_at_pending n b bs false e s = ([], b ∷ bs, refl, e, omega arith)

string_at_plain : (n b : ℕ) (bs : List ℕ) (q : Bool) → is_quote b ≡ q → StringAt true (suc n) bs (string_length true (suc n) bs)
    → StringAt false (suc n) bs (string_length false (suc n) bs) → StringAt false n (b ∷ bs) (cond (false && not q) (Some n) (string_length (q && not false) (suc n) bs))
string_at_plain n b bs true e s t =
    subst (λ k. StringAt false n (k ∷ bs) (string_length true (suc n) bs)) (sym (eqb-true b 39 e)) (string_opens n bs (string_length true (suc n) bs) s)
string_at_plain n b bs false e s t = string_plain n b bs (string_length false (suc n) bs) e t

-- what is found is a string, and where nothing is found none ends
pub string_at : (bs : List ℕ) (pending : Bool) (n : ℕ) → StringAt pending n bs (string_length pending n bs)
string_at [] true n = ([], [], refl, refl, omega arith)
string_at [] false n = ([], refl)
string_at (b ∷ bs) true n = string_at_pending n b bs (is_quote b) refl (string_at bs false (suc n))
string_at (b ∷ bs) false n = string_at_plain n b bs (is_quote b) refl (string_at bs true (suc n)) (string_at bs false (suc n))

undoubled_by : (x : ℕ) (rest : List ℕ) (q : Bool) → is_quote x ≡ q → undoubled false (quoted x ++ rest) ≡ x ∷ undoubled false rest
undoubled_by x rest true e = subst (λ k. undoubled false (quoted k ++ rest) ≡ k ∷ undoubled false rest) (sym (eqb-true x 39 e)) refl
undoubled_by x rest false e = ap (λ (k : List ℕ). undoubled false (k ++ rest)) (quoted_plain x e) ∙ ap (λ q. cond (q && not false) (undoubled true rest) (x ∷ undoubled false rest)) e

-- each quote is doubled, and so read back
pub undoubled_doubled : (content : List ℕ) → undoubled false (doubled content) ≡ content
undoubled_doubled [] = refl
undoubled_doubled (x ∷ xs) = undoubled_by x (doubled xs) (is_quote x) refl ∙ ap (λ k. x ∷ k) (undoubled_doubled xs)

length_by : (x : ℕ) (rest : List ℕ) (n : ℕ) (q : Bool) → is_quote x ≡ q → string_length false n (quoted x ++ rest) ≡ string_length false (n + length (quoted x)) rest
length_by x rest n true e =
    let two : n + 2 ≡ suc (suc n) = omega arith in
    subst (λ k. string_length false n (quoted k ++ rest) ≡ string_length false (n + length (quoted k)) rest) (sym (eqb-true x 39 e)) (rw two refl)
length_by x rest n false e =
    let one : n + 1 ≡ suc n = omega arith in
    rw (quoted_plain x e, one) (ap (λ q. string_length (q && not false) (suc n) rest) e)

string_closes : (more : List ℕ) (n : ℕ) → first_is is_quote more ≡ false → string_length true n more ≡ Some n
string_closes [] n h = refl
string_closes (b ∷ bs) n h = cond-true (not (is_quote b)) _ _ (not_from_false (is_quote b) h)

-- a string is found
pub string_found : (content more : List ℕ) (n : ℕ) → first_is is_quote more ≡ false → string_length false n (doubled content ++ 39 ∷ more) ≡ Some (n + length (doubled content) + 1)
string_found [] more n h = string_closes more (suc n) h ∙ ap Some (omega arith)
string_found (x ∷ xs) more n h =
    ap (string_length false n) (append_assoc (quoted x) (doubled xs) (39 ∷ more)) ∙ length_by x (doubled xs ++ 39 ∷ more) n (is_quote x) refl
    ∙ string_found xs more (n + length (quoted x)) h ∙ ap Some (rw length-append (omega arith))

-- no string ends
pub string_none : (content : List ℕ) (n : ℕ) → string_length false n (doubled content) ≡ None
string_none [] n = refl
string_none (x ∷ xs) n = length_by x (doubled xs) n (is_quote x) refl ∙ string_none xs (n + length (quoted x))

abbrev pub CommentAt : Bool → ℕ → List ℕ → Option ℕ → Type 0
CommentAt star n bs None = has_end star bs ≡ false
CommentAt star n bs (Some m) =
    (body more : List ℕ) × (bs ≡ body ++ 47 ∷ more) × (has_end star body ≡ false) × (has_end star (body ++ 47 ∷ []) ≡ true) × (m ≡ n + length body + 1)

comment_ends : (star : Bool) (n b : ℕ) (bs : List ℕ) → (star && is_slash b) ≡ true → CommentAt star n (b ∷ bs) (Some (suc n))
comment_ends star n b bs e =
    let p = and_parts star (is_slash b) e in
    ([], bs, ap (λ k. k ∷ bs) (eqb-true b 47 p.1), refl, rw p.0 refl, omega arith)

comment_more : (star : Bool) (n b : ℕ) (bs : List ℕ) (r : Option ℕ) → (star && is_slash b) ≡ false → CommentAt (is_star b) (suc n) bs r → CommentAt star n (b ∷ bs) r
comment_more star n b bs None e s = or_from _ _ e s
comment_more star n b bs (Some m) e s = (b ∷ s.0, s.1, ap (λ k. b ∷ k) s.2, or_from _ _ e s.3, or_right _ _ s.4, omega (arith, s.5))

-- what is found is a comment, and where nothing is found none ends
pub comment_at : (bs : List ℕ) (star : Bool) (n : ℕ) → CommentAt star n bs (comment_length star n bs)
comment_at [] star n = refl
comment_at (b ∷ bs) star n =
    cond_both (star && is_slash b) _ _ (CommentAt star n (b ∷ bs)) (λ e. comment_ends star n b bs e)
    (λ e. comment_more star n b bs (comment_length (is_star b) (suc n) bs) e (comment_at bs (is_star b) (suc n)))

closes_by : (star : Bool) (n : ℕ) (more : List ℕ) → has_end star (47 ∷ []) ≡ true → comment_length star n (47 ∷ more) ≡ Some (n + 0 + 1)
closes_by true n more h = ap Some (omega arith)
closes_by false n more h = absurd (false≢true h)

right_of : (x y : Bool) → x ≡ false → (x || y) ≡ true → y ≡ true
right_of true y e h = absurd (false≢true (sym e))
right_of false y e h = h

-- a comment is found
pub comment_found : (body more : List ℕ) (star : Bool) (n : ℕ) → has_end star body ≡ false → has_end star (body ++ 47 ∷ []) ≡ true
    → comment_length star n (body ++ 47 ∷ more) ≡ Some (n + length body + 1)
comment_found [] more star n e h = closes_by star n more h
comment_found (b ∷ bs) more star n e h =
    let p = or_parts _ _ e in
    cond-false (star && is_slash b) _ _ p.0 ∙ comment_found bs more (is_star b) (suc n) p.1 (right_of _ _ p.0 h) ∙ ap Some (omega arith)

-- no comment ends
pub comment_none : (bs : List ℕ) (star : Bool) (n : ℕ) → has_end star bs ≡ false → comment_length star n bs ≡ None
comment_none [] star n h = refl
comment_none (b ∷ bs) star n h = let p = or_parts _ _ h in cond-false (star && is_slash b) _ _ p.0 ∙ comment_none bs (is_star b) (suc n) p.1
