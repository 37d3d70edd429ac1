-- LIKE by parts: a pattern is cut at each `%`, and each part is found as early as it can be.
use Rattle.std.proofs.Common.{ℕ, zero, suc, ◌≡◌, ◌<◌, ◌≤◌, ◌+◌, ◌-◌, Bool, true, false, cond, ◌&&◌, ◌||◌, ◌==◌, List, [], ◌∷◌, ◌++◌, length, take, drop, refl, sym, ap, subst, inl, inr, ◌∙◌, arith, zero-add, leb, Option, Some, None}
use Rattle.std.specs.Option.{option_map}
use Rattle.std.specs.List.{list_any, list_all, prefix_len}
use Rattle.std.proofs.Common.{not, length-take, take_all, drop-drop}
use Rattle.std.proofs.lemmas.Bool.{and_parts, and_from, and_left, or_cases, or_left, or_right, not-true, leb-true, le-leb, lt-leb, eqb-true, eq-eqb, cases_Bool, cases_order, and_right, false_from_ne_true, cond-true, cond-false, false≢true}
use Rattle.ebr_value.specs.Patterns.{StandsFor, IsLike, suffixes, is_empty, after_one, like}
use Rattle.ebr_value.specs.inside.Parts.{in_part, fits}
use Rattle.ebr_value.specs.Places.{first_place}

-- two tests that pass together are equal
same_bool : (x y : Bool) → (x ≡ true → y ≡ true) → (y ≡ true → x ≡ true) → x ≡ y
same_bool true y f g = sym (f refl)
same_bool false true f g = g refl
same_bool false false f g = refl

and-assoc : (x y z : Bool) → (x && (y && z)) ≡ ((x && y) && z)
and-assoc true y z = refl
and-assoc false y z = refl

and-true : (x : Bool) → (x && true) ≡ x
and-true true = refl
and-true false = refl

or-false : (x : Bool) → (x || false) ≡ x
or-false true = refl
or-false false = refl

append-nil : (xs : List ℕ) → xs ++ [] ≡ xs
append-nil [] = refl
append-nil (x ∷ xs) = ap (λ ys. x ∷ ys) (append-nil xs)

leb-suc : (m n : ℕ) → leb m n ≡ leb (suc m) (suc n)
leb-suc m n =
    same_bool _ _
    (λ h. let l : m ≤ n = leb-true m n h in le-leb (suc m) (suc n) (omega arith))
    (λ h. let l : suc m ≤ suc n = leb-true (suc m) (suc n) h in le-leb m n (omega arith))

is_empty-drop : (n : ℕ) (t : List ℕ) → is_empty (drop n t) ≡ leb (length t) n
is_empty-drop zero [] = refl
is_empty-drop zero (b ∷ bs) = sym (lt-leb (length (b ∷ bs)) 0 (omega arith))
is_empty-drop (suc n) [] = sym (le-leb 0 (suc n) (omega arith))
is_empty-drop (suc n) (b ∷ bs) = is_empty-drop n bs ∙ leb-suc (length bs) n

part_head : (p : ℕ) (ps : List ℕ) → list_all in_part (p ∷ ps) ≡ true → ((p == 37) ≡ false) × (list_all in_part ps ≡ true)
part_head p ps h = let a = and_parts (in_part p) (list_all in_part ps) h in (not-true (p == 37) a.0, a.1)

-- a part without `%` in front of a pattern
pub like_part : (part q t : List ℕ) → list_all in_part part ≡ true → like (part ++ q) t ≡ (fits part t && like q (drop (length part) t))
like_part [] q t h = refl
like_part (p ∷ ps) q [] h = cond-false (p == 37) _ _ (part_head p ps h).0
like_part (p ∷ ps) q (b ∷ bs) h =
    let a = part_head p ps h in
    cond-false (p == 37) _ _ a.0 ∙ ap (λ x. (p == 95 || p == b) && x) (like_part ps q bs a.1) ∙ and-assoc (p == 95 || p == b) (fits ps bs) (like q (drop (length ps) bs))

-- a pattern without `%`
pub like_whole : (part t : List ℕ) → list_all in_part part ≡ true → like part t ≡ (fits part t && leb (length t) (length part))
like_whole part t h =
    ap (λ q. like q t) (sym (append-nil part)) ∙ like_part part [] t h ∙ ap (λ x. fits part t && x) (is_empty-drop (length part) t)

pub fits-length : (part t : List ℕ) → fits part t ≡ true → length part ≤ length t
fits-length [] t h = omega arith
fits-length (p ∷ ps) [] h = absurd (false≢true h)
fits-length (p ∷ ps) (b ∷ bs) h = let r : length ps ≤ length bs = fits-length ps bs (and_parts (p == 95 || p == b) (fits ps bs) h).1 in omega arith

pub too-short : (part t : List ℕ) → length t < length part → fits part t ≡ false
too-short part t l = false_from_ne_true (fits part t) (λ h. let m : length part ≤ length t = fits-length part t h in omega arith)

-- what some suffix passes of a text's end, some suffix passes of a longer end
any-earlier : (test : List ℕ → Bool) (n : ℕ) (t : List ℕ) → list_any test (suffixes (drop (suc n) t)) ≡ true → list_any test (suffixes (drop n t)) ≡ true
any-earlier test zero [] h = h
any-earlier test zero (b ∷ bs) h = or_right _ _ h
any-earlier test (suc n) [] h = h
any-earlier test (suc n) (b ∷ bs) h = any-earlier test n bs h

-- wherever a part is found, what follows it is found behind its earliest place too
any-after : (part q t : List ℕ) → list_all in_part part ≡ true → list_any (like (part ++ 37 ∷ q)) (suffixes t) ≡ true → list_any (like q) (suffixes (drop (length part) t)) ≡ true
any-after part q [] h a =
    let here : like (part ++ 37 ∷ q) [] ≡ true = sym (or-false _) ∙ a in
    (and_parts _ _ (sym (like_part part (37 ∷ q) [] h) ∙ here)).1
any-after part q (b ∷ bs) h a =
    elim (or_cases _ _ a) [
      | inl here ↦ (and_parts _ _ (sym (like_part part (37 ∷ q) (b ∷ bs) h) ∙ here)).1
      | inr later ↦ any-earlier (like q) (length part) (b ∷ bs) (any-after part q bs h later)
    ]

-- what is left to test once a part's first place is known
abbrev pub behind : List ℕ → ℕ → List ℕ → Option ℕ → Bool
behind q n t None = false
behind q n t (Some k) = list_any (like q) (suffixes (drop (k + n) t))

behind-more : (q : List ℕ) (n b : ℕ) (bs : List ℕ) (o : Option ℕ) → behind q n (b ∷ bs) (option_map (λ k. k + 1) o) ≡ behind q n bs o
behind-more q n b bs None = refl
behind-more q n b bs (Some k) = let e : k + 1 + n ≡ suc (k + n) = omega arith in rw e refl

here-fits : (part q t : List ℕ) (rest : Bool) → list_all in_part part ≡ true → fits part t ≡ true → (rest ≡ true → list_any (like q) (suffixes (drop (length part) t)) ≡ true) → (like (part ++ 37 ∷ q) t || rest) ≡ list_any (like q) (suffixes (drop (length part) t))
here-fits part q t rest h f later =
    let here : like (part ++ 37 ∷ q) t ≡ list_any (like q) (suffixes (drop (length part) t)) = like_part part (37 ∷ q) t h ∙ ap (λ x. x && list_any (like q) (suffixes (drop (length part) t))) f in
    same_bool _ _
    (λ a. elim (or_cases _ _ a) [ inl x ↦ sym here ∙ x | inr y ↦ later y ])
    (λ y. or_left _ _ (here ∙ y))

here-not : (part q t : List ℕ) (rest : Bool) → list_all in_part part ≡ true → fits part t ≡ false → (like (part ++ 37 ∷ q) t || rest) ≡ rest
here-not part q t rest h f = ap (λ x. x || rest) (like_part part (37 ∷ q) t h ∙ and_left _ _ f)

-- the first place of a part decides
pub like_first : (part q t : List ℕ) → list_all in_part part ≡ true → like (37 ∷ part ++ 37 ∷ q) t ≡ behind q (length part) t (first_place (fits part) t)
like_first part q [] h =
    elim (cases_Bool (fits part [])) [
      | inl f ↦ here-fits part q [] false h f (λ x. absurd (false≢true x)) ∙ ap (λ k. list_any (like q) (suffixes (drop k []))) (sym (zero-add (length part))) ∙ ap (behind q (length part) []) (sym (cond-true _ (Some 0) None f))
      | inr f ↦ here-not part q [] false h f ∙ ap (behind q (length part) []) (sym (cond-false _ (Some 0) None f))
    ]
like_first part q (b ∷ bs) h =
    elim (cases_Bool (fits part (b ∷ bs))) [
      | inl f ↦ here-fits part q (b ∷ bs) (list_any (like (part ++ 37 ∷ q)) (suffixes bs)) h f (λ x. any-after part q (b ∷ bs) h (or_right _ _ x)) ∙ ap (λ k. list_any (like q) (suffixes (drop k (b ∷ bs)))) (sym (zero-add (length part))) ∙ ap (behind q (length part) (b ∷ bs)) (sym (cond-true _ (Some 0) (option_map (λ n. n + 1) (first_place (fits part) bs)) f))
      | inr f ↦ here-not part q (b ∷ bs) (list_any (like (part ++ 37 ∷ q)) (suffixes bs)) h f ∙ like_first part q bs h ∙ sym (behind-more q (length part) b bs (first_place (fits part) bs)) ∙ ap (behind q (length part) (b ∷ bs)) (sym (cond-false _ (Some 0) (option_map (λ n. n + 1) (first_place (fits part) bs)) f))
    ]

-- whether a part stands at a text's end
abbrev pub at_end : List ℕ → List ℕ → Bool
at_end part t = leb (length part) (length t) && fits part (drop (length t - length part) t)

last-same : (part : List ℕ) (b : ℕ) (bs : List ℕ) → length part ≡ suc (length bs) → ((fits part (b ∷ bs) && leb (suc (length bs)) (length part)) || at_end part bs) ≡ at_end part (b ∷ bs)
last-same part b bs same =
    let e1 : leb (suc (length bs)) (length part) ≡ true = le-leb _ _ (omega arith) in
    let e2 : leb (length part) (length bs) ≡ false = lt-leb _ _ (omega arith) in
    let e3 : leb (length part) (suc (length bs)) ≡ true = le-leb _ _ (omega arith) in
    let e4 : suc (length bs) - length part ≡ 0 = omega arith in
    rw (e1, e2, e3, e4) (or-false (fits part (b ∷ bs) && true) ∙ and-true (fits part (b ∷ bs)))

last-less : (part : List ℕ) (b : ℕ) (bs : List ℕ) → length part < suc (length bs) → ((fits part (b ∷ bs) && leb (suc (length bs)) (length part)) || at_end part bs) ≡ at_end part (b ∷ bs)
last-less part b bs less =
    let e1 : leb (suc (length bs)) (length part) ≡ false = lt-leb _ _ (omega arith) in
    let e2 : leb (length part) (length bs) ≡ true = le-leb _ _ (omega arith) in
    let e3 : leb (length part) (suc (length bs)) ≡ true = le-leb _ _ (omega arith) in
    let e4 : suc (length bs) - length part ≡ suc (length bs - length part) = omega arith in
    rw (e1, e2, e3, e4) (ap (λ x. x || fits part (drop (length bs - length part) bs)) (and_right (fits part (b ∷ bs)) false refl))

last-more : (part : List ℕ) (b : ℕ) (bs : List ℕ) → suc (length bs) < length part → ((fits part (b ∷ bs) && leb (suc (length bs)) (length part)) || at_end part bs) ≡ at_end part (b ∷ bs)
last-more part b bs more =
    let e1 : leb (suc (length bs)) (length part) ≡ true = le-leb _ _ (omega arith) in
    let e2 : leb (length part) (length bs) ≡ false = lt-leb _ _ (omega arith) in
    let e3 : leb (length part) (suc (length bs)) ≡ false = lt-leb _ _ (omega arith) in
    let e4 : fits part (b ∷ bs) ≡ false = too-short part (b ∷ bs) more in
    rw (e1, e2, e3, e4) refl

last-step : (part : List ℕ) (b : ℕ) (bs : List ℕ) → ((fits part (b ∷ bs) && leb (suc (length bs)) (length part)) || at_end part bs) ≡ at_end part (b ∷ bs)
last-step part b bs =
    elim (cases_order (length part) (suc (length bs))) [
      | inl same ↦ last-same part b bs same
      | inr other ↦ elim other [ inl less ↦ last-less part b bs less | inr more ↦ last-more part b bs more ]
    ]

-- the last part stands at the end
pub like_last : (part t : List ℕ) → list_all in_part part ≡ true → like (37 ∷ part) t ≡ at_end part t
like_last [] [] h = refl
like_last (p ∷ ps) [] h = ap (λ x. x || false) (like_whole (p ∷ ps) [] h) ∙ sym (and_left _ _ (lt-leb (suc (length ps)) 0 (omega arith)))
like_last part (b ∷ bs) h =
    ap (λ x. x || list_any (like part) (suffixes bs)) (like_whole part (b ∷ bs) h) ∙ ap (λ x. (fits part (b ∷ bs) && leb (length (b ∷ bs)) (length part)) || x) (like_last part bs h) ∙ last-step part b bs

pub end_there : (part t : List ℕ) → list_all in_part part ≡ true → length part ≤ length t → like (37 ∷ part) t ≡ fits part (drop (length t - length part) t)
end_there part t h l = like_last part t h ∙ ap (λ x. x && fits part (drop (length t - length part) t)) (le-leb _ _ l)

pub end_short : (part t : List ℕ) → list_all in_part part ≡ true → length t < length part → like (37 ∷ part) t ≡ false
end_short part t h l = like_last part t h ∙ and_left _ _ (lt-leb _ _ l)

-- the part in front of the next `%`, and what follows that

abbrev pub IsCut : List ℕ → ℕ → Type 0
IsCut xs n = (list_all in_part (take n xs) ≡ true) × (n < length xs → xs ≡ take n xs ++ 37 ∷ drop (n + 1) xs) × (n ≤ length xs)

cut_by : (x : ℕ) (xs : List ℕ) (b : Bool) (n : ℕ) → (x == 37) ≡ b → IsCut xs n → IsCut (x ∷ xs) (cond (not b) (1 + n) 0)
cut_by x xs true n e h = (refl, λ l. ap (λ y. y ∷ xs) (eqb-true x 37 e), omega arith)
cut_by x xs false n e h =
    let s : 1 + n ≡ suc n = omega arith in
    let t : suc n + 1 ≡ suc (n + 1) = omega arith in
    rw s (
      and_from (in_part x) (list_all in_part (take n xs)) (ap not e) h.0,
      λ l. rw t (ap (λ ys. x ∷ ys) (h.1 (omega (arith, l)))),
      omega (arith, h.2),
    )

pub cut : (xs : List ℕ) → IsCut xs (prefix_len in_part xs)
cut [] = (refl, λ l. absurd (omega (arith, l)), omega arith)
cut (x ∷ xs) = cut_by x xs (x == 37) (prefix_len in_part xs) refl (cut xs)

pub all_of_it : (xs : List ℕ) (n : ℕ) → n ≡ prefix_len in_part xs → n ≡ length xs → list_all in_part xs ≡ true
all_of_it xs n e l = ap (list_all in_part) (sym (take_all n xs (omega (arith, l)))) ∙ ap (λ k. list_all in_part (take k xs)) e ∙ (cut xs).0

cut_at : (xs : List ℕ) (n : ℕ) → n ≡ prefix_len in_part xs → IsCut xs n
cut_at xs n e = subst (IsCut xs) (sym e) (cut xs)

length_part : (xs : List ℕ) (n : ℕ) → IsCut xs n → length (take n xs) ≡ n
length_part xs n h = omega (arith, h.2, length-take n xs)

pub next_part : (pattern text : List ℕ) (n k : ℕ) → n ≡ prefix_len in_part pattern → n < length pattern → first_place (fits (take n pattern)) text ≡ Some k → like (37 ∷ pattern) text ≡ like (37 ∷ drop (n + 1) pattern) (drop (k + n) text)
next_part pattern text n k e l f =
    let h = cut_at pattern n e in
    ap (λ xs. like (37 ∷ xs) text) (h.1 l) ∙ like_first (take n pattern) (drop (n + 1) pattern) text h.0 ∙ ap (behind (drop (n + 1) pattern) (length (take n pattern)) text) f ∙ ap (λ m. like (37 ∷ drop (n + 1) pattern) (drop (k + m) text)) (length_part pattern n h)

pub no_part : (pattern text : List ℕ) (n : ℕ) → n ≡ prefix_len in_part pattern → n < length pattern → first_place (fits (take n pattern)) text ≡ None → like (37 ∷ pattern) text ≡ false
no_part pattern text n e l f =
    let h = cut_at pattern n e in
    ap (λ xs. like (37 ∷ xs) text) (h.1 l) ∙ like_first (take n pattern) (drop (n + 1) pattern) text h.0 ∙ ap (behind (drop (n + 1) pattern) (length (take n pattern)) text) f

pub first_part : (pattern text : List ℕ) (n : ℕ) → n ≡ prefix_len in_part pattern → n < length pattern → like pattern text ≡ (fits (take n pattern) text && like (37 ∷ drop (n + 1) pattern) (drop n text))
first_part pattern text n e l =
    let h = cut_at pattern n e in
    ap (λ xs. like xs text) (h.1 l) ∙ like_part (take n pattern) (37 ∷ drop (n + 1) pattern) text h.0 ∙ ap (λ m. fits (take n pattern) text && like (37 ∷ drop (n + 1) pattern) (drop m text)) (length_part pattern n h)

-- the steps of the code

pub loop-step : (pattern text rest after : List ℕ) (at place n k : ℕ) → like (37 ∷ drop at pattern) (drop place text) ≡ like (37 ∷ pattern) text → rest ≡ drop at pattern → after ≡ drop place text → n ≡ prefix_len in_part rest → n < length rest → first_place (fits (take n rest)) after ≡ Some k → like (37 ∷ drop (at + (n + 1)) pattern) (drop (place + (k + n)) text) ≡ like (37 ∷ pattern) text
loop-step pattern text rest after at place n k same r a e l f =
    ap (λ xs. like (37 ∷ xs) (drop (place + (k + n)) text)) (sym (drop-drop (n + 1) at pattern) ∙ ap (drop (n + 1)) (sym r)) ∙ ap (like (37 ∷ drop (n + 1) rest)) (sym (drop-drop (k + n) place text) ∙ ap (drop (k + n)) (sym a)) ∙ sym (next_part rest after n k e l f) ∙ ap (λ xs. like (37 ∷ xs) after) r ∙ ap (like (37 ∷ drop at pattern)) a ∙ same

pub loop-none : (pattern text rest after : List ℕ) (at place n : ℕ) → like (37 ∷ drop at pattern) (drop place text) ≡ like (37 ∷ pattern) text → rest ≡ drop at pattern → after ≡ drop place text → n ≡ prefix_len in_part rest → n < length rest → first_place (fits (take n rest)) after ≡ None → like (37 ∷ pattern) text ≡ false
loop-none pattern text rest after at place n same r a e l f =
    sym same ∙ ap (λ xs. like (37 ∷ xs) (drop place text)) (sym r) ∙ ap (like (37 ∷ rest)) (sym a) ∙ no_part rest after n e l f

pub whole_there : (pattern text : List ℕ) (n : ℕ) → n ≡ prefix_len in_part pattern → n ≡ length pattern → fits pattern text ≡ true → leb (length text) n ≡ like pattern text
whole_there pattern text n e l f = ap (leb (length text)) l ∙ ap (λ x. x && leb (length text) (length pattern)) (sym f) ∙ sym (like_whole pattern text (all_of_it pattern n e l))

pub whole_not : (pattern text : List ℕ) (n : ℕ) → n ≡ prefix_len in_part pattern → n ≡ length pattern → fits pattern text ≡ false → like pattern text ≡ false
whole_not pattern text n e l f = like_whole pattern text (all_of_it pattern n e l) ∙ and_left _ _ f

pub part_within : (pattern text : List ℕ) (n : ℕ) → n ≤ length pattern → fits (take n pattern) text ≡ true → n ≤ length text
part_within pattern text n l f = let h : length (take n pattern) ≤ length text = fits-length (take n pattern) text f in omega (arith, length-take n pattern)

pub first_not : (pattern text : List ℕ) (n : ℕ) → n ≡ prefix_len in_part pattern → n < length pattern → fits (take n pattern) text ≡ false → like pattern text ≡ false
first_not pattern text n e l f = first_part pattern text n e l ∙ and_left _ _ f

pub first_there : (pattern text more rest : List ℕ) (n : ℕ) → n ≡ prefix_len in_part pattern → n < length pattern → fits (take n pattern) text ≡ true → more ≡ drop (n + 1) pattern → rest ≡ drop n text → like (37 ∷ more) rest ≡ like pattern text
first_there pattern text more rest n e l f m r = ap (λ xs. like (37 ∷ xs) rest) m ∙ ap (like (37 ∷ drop (n + 1) pattern)) r ∙ ap (λ x. x && like (37 ∷ drop (n + 1) pattern) (drop n text)) (sym f) ∙ sym (first_part pattern text n e l)

-- the two meanings of LIKE

any_suffix : (test : List ℕ → Bool) (part rest : List ℕ) → test rest ≡ true → list_any test (suffixes (part ++ rest)) ≡ true
any_suffix test [] [] h = or_left _ _ h
any_suffix test [] (b ∷ bs) h = or_left _ _ h
any_suffix test (b ∷ bs) rest h = or_right _ _ (any_suffix test bs rest h)

some_suffix : (test : List ℕ → Bool) (text : List ℕ) → list_any test (suffixes text) ≡ true → (part rest : List ℕ) × (text ≡ part ++ rest) × (test rest ≡ true)
some_suffix test [] h = ([], [], refl, sym (or-false (test [])) ∙ h)
some_suffix test (b ∷ bs) h =
    elim (or_cases (test (b ∷ bs)) (list_any test (suffixes bs)) h) [
      | inl here ↦ ([], b ∷ bs, refl, here)
      | inr later ↦ let s = some_suffix test bs later in (b ∷ s.0, s.1, ap (λ xs. b ∷ xs) s.2, s.3)
    ]

is_empty-nil : (text : List ℕ) → is_empty text ≡ true → text ≡ []
is_empty-nil [] h = refl
is_empty-nil (b ∷ bs) h = absurd (false≢true h)

one-byte : (part : List ℕ) → length part ≡ 1 → (b : ℕ) × (part ≡ b ∷ [])
one-byte [] h = absurd (omega (arith, h))
one-byte (b ∷ []) h = (b, refl)
one-byte (b ∷ c ∷ bs) h = absurd (omega (arith, h))

one_is : (p : ℕ) (ps text : List ℕ) → after_one p (like ps) text ≡ true → ((t : List ℕ) → like ps t ≡ true → IsLike t ps) → IsLike text (p ∷ ps)
one_is p ps [] h more = absurd (false≢true h)
one_is p ps (b ∷ bs) h more =
    let a = and_parts (p == 95 || p == b) (like ps bs) h in
    elim (or_cases (p == 95) (p == b) a.0) [
      | inl u ↦ (b ∷ [], bs, refl, inr (inl (eqb-true p 95 u, refl)), more bs a.1)
      | inr s ↦ (b ∷ [], bs, refl, inr (inr (ap (λ x. x ∷ []) (sym (eqb-true p b s)))), more bs a.1)
    ]

run_is : (p : ℕ) (ps text : List ℕ) → p ≡ 37 → list_any (like ps) (suffixes text) ≡ true → ((t : List ℕ) → like ps t ≡ true → IsLike t ps) → IsLike text (p ∷ ps)
run_is p ps text e h more = let s = some_suffix (like ps) text h in (s.0, s.1, s.2, inl e, more s.1 s.3)

pub like_is : (pattern text : List ℕ) → like pattern text ≡ true → IsLike text pattern
like_is [] text h = is_empty-nil text h
like_is (p ∷ ps) text h =
    elim (cases_Bool (p == 37)) [
      | inl e ↦ run_is p ps text (eqb-true p 37 e) (sym (cond-true (p == 37) _ _ e) ∙ h) (like_is ps)
      | inr e ↦ one_is p ps text (sym (cond-false (p == 37) _ _ e) ∙ h) (like_is ps)
    ]

one-step : (p b : ℕ) (ps rest : List ℕ) → (p == 37) ≡ false → (p == 95 || p == b) ≡ true → like ps rest ≡ true → like (p ∷ ps) (b ∷ rest) ≡ true
one-step p b ps rest e s r = cond-false (p == 37) _ _ e ∙ and_from (p == 95 || p == b) (like ps rest) s r

run-step : (p : ℕ) (ps part rest : List ℕ) → (p == 37) ≡ true → like ps rest ≡ true → like (p ∷ ps) (part ++ rest) ≡ true
run-step p ps part rest e r = cond-true (p == 37) _ _ e ∙ any_suffix (like ps) part rest r

underscore-step : (p : ℕ) (ps part rest : List ℕ) → p ≡ 95 → length part ≡ 1 → like ps rest ≡ true → like (p ∷ ps) (part ++ rest) ≡ true
underscore-step p ps part rest u l r =
    let one = one-byte part l in
    let e : (p == 37) ≡ false = rw u refl in
    ap (λ x. like (p ∷ ps) (x ++ rest)) one.1 ∙ one-step p one.0 ps rest e (or_left (p == 95) (p == one.0) (eq-eqb p 95 u)) r

itself-step : (p : ℕ) (ps part rest : List ℕ) → part ≡ p ∷ [] → like ps rest ≡ true → like (p ∷ ps) (part ++ rest) ≡ true
itself-step p ps part rest s r =
    elim (cases_Bool (p == 37)) [
      | inl e ↦ run-step p ps part rest e r
      | inr e ↦ ap (λ x. like (p ∷ ps) (x ++ rest)) s ∙ one-step p p ps rest e (or_right (p == 95) (p == p) (eq-eqb p p refl)) r
    ]

step : (p : ℕ) (ps part rest : List ℕ) → StandsFor p part → like ps rest ≡ true → like (p ∷ ps) (part ++ rest) ≡ true
step p ps part rest (inl e) r = run-step p ps part rest (eq-eqb p 37 e) r
step p ps part rest (inr (inl (u, l))) r = underscore-step p ps part rest u l r
step p ps part rest (inr (inr s)) r = itself-step p ps part rest s r

pub is_like : (pattern text : List ℕ) → IsLike text pattern → like pattern text ≡ true
is_like [] text h = rw h refl
is_like (p ∷ ps) text h = ap (like (p ∷ ps)) h.2 ∙ step p ps h.0 h.1 h.3 (is_like ps h.1 h.4)
