-- The rows of a table, from one to the next.
use Rattle.std.proofs.Common.{◌≡◌, ℕ, ◌+◌, ◌<◌, ◌≤◌, ◌⊎◌, inl, inr, ⊎_elim, Bool, true, false, cond, ◌&&◌, List, [], ◌∷◌, Option, Some, None, refl, sym, ap, ◌∙◌, arith, min}
use Rattle.std.specs.Prelude.{filter, option_map, nat_lt}
use Rattle.std.specs.List.{AllByRecursion}
use Rattle.std.proofs.lemmas.Bool.{lt-ltb, ltb-true, cases_lt}
use Rattle.std.proofs.lemmas.Option.{same_Some}
use Rattle.std.proofs.lemmas.List.Elements.{recursion_from_All, All-weaker}
use Rattle.ebr_base.specs.declared.numbers.RowNo.{RowNo}
use Rattle.ebr_versions.specs.Data.{lesser, least, row_no}
use Rattle.ebr_versions.proofs.NumberLemmas.{least_above, least_none}

pub some_row : (o : Option ℕ) (r : RowNo) → Some r ≡ option_map row_no o → o ≡ Some r.0
some_row None r e = cc
some_row (Some n) r e = ap (λ (s : RowNo). Some s.0) (sym (same_Some r (row_no n) e))

pub none_row : (o : Option ℕ) → None ≡ option_map row_no o → o ≡ None
none_row None e = refl
none_row (Some n) e = cc

filter-and : (p q : ℕ → Bool) (ns : List ℕ) → filter (λ n. p n && q n) ns ≡ filter q (filter p ns)
filter-and p q [] = refl
filter-and p q (n ∷ ns) = by (p n) (filter-and p q ns)
  where
    by : (b : Bool) → filter (λ m. p m && q m) ns ≡ filter q (filter p ns) → cond (b && q n) (n ∷ filter (λ m. p m && q m) ns) (filter (λ m. p m && q m) ns) ≡ filter q (cond b (n ∷ filter p ns) (filter p ns))
    by true rest = ap (λ ms. cond (q n) (n ∷ ms) ms) rest
    by false rest = rest

-- the least number is still the least where it is kept
lesser_some : (n : ℕ) (o : Option ℕ) (m : ℕ) → lesser (Some n) o ≡ Some m → ((m ≡ n) × ((k : ℕ) → o ≡ Some k → n ≤ k)) ⊎ ((o ≡ Some m) × (m ≤ n))
lesser_some n None m e = inl (sym (same_Some n m e), λ k h. cc)
lesser_some n (Some k) m e =
    let is : min n k ≡ m = same_Some (min n k) m e in
    ⊎_elim (λ (h : n < k + 1). inl (omega arith, λ j i. let same : k ≡ j = same_Some k j i in omega arith))
    (λ (h : k + 1 ≤ n). let same : k ≡ m = omega arith in inr (ap Some same, omega arith)) (cases_lt n (k + 1))

abbrev Bounds : ℕ → Option ℕ → Type 0
Bounds m None = Unit {0}
Bounds m (Some k) = m ≤ k

bounds_least : (m : ℕ) (ns : List ℕ) → AllByRecursion (λ n. m ≤ n) ns → Bounds m (least ns)
bounds_least m [] h = tt
bounds_least m (n ∷ ns) h = by (least ns) (bounds_least m ns h.1)
  where
    by : (o : Option ℕ) → Bounds m o → Bounds m (lesser (Some n) o)
    by None b = h.0
    by (Some k) b = let first : m ≤ n = h.0 in let other : m ≤ k = b in omega arith

lesser_bound : (m : ℕ) (o : Option ℕ) → Bounds m o → lesser (Some m) o ≡ Some m
lesser_bound m None b = refl
lesser_bound m (Some k) b = let other : m ≤ k = b in let is : min m k ≡ m = omega arith in ap Some is

lesser_other : (n m : ℕ) (o : Option ℕ) → o ≡ Some m → m ≤ n → lesser (Some n) o ≡ Some m
lesser_other n m None e h = cc
lesser_other n m (Some k) e h = let same : k ≡ m = same_Some k m e in let is : min n k ≡ m = omega arith in ap Some is

bounds_filter : (q : ℕ → Bool) (m : ℕ) (ns : List ℕ) → AllByRecursion (λ n. m ≤ n) ns → AllByRecursion (λ n. m ≤ n) (filter q ns)
bounds_filter q m [] h = tt
bounds_filter q m (n ∷ ns) h = by (q n) (bounds_filter q m ns h.1)
  where
    by : (b : Bool) → AllByRecursion (λ k. m ≤ k) (filter q ns) → AllByRecursion (λ k. m ≤ k) (cond b (n ∷ filter q ns) (filter q ns))
    by true rest = (h.0, rest)
    by false rest = rest

least_bounds : (m : ℕ) (ns : List ℕ) → Bounds m (least ns) → AllByRecursion (λ n. m ≤ n) ns
least_bounds m [] h = tt
least_bounds m (n ∷ ns) h = by (least ns) h (least_bounds m ns)
  where
    by : (o : Option ℕ) → Bounds m (lesser (Some n) o) → (Bounds m o → AllByRecursion (λ k. m ≤ k) ns) → (m ≤ n) × AllByRecursion (λ k. m ≤ k) ns
    by None b rest = (b, rest tt)
    by (Some k) b rest = let both : m ≤ min n k = b in let first : m ≤ n = omega arith in let other : m ≤ k = omega arith in (first, rest other)

pub least_kept : (q : ℕ → Bool) (ns : List ℕ) (m : ℕ) → least ns ≡ Some m → q m ≡ true → least (filter q ns) ≡ Some m
least_kept q [] m e h = e
least_kept q (n ∷ ns) m e h =
    ⊎_elim
    (λ (first : (m ≡ n) × ((k : ℕ) → least ns ≡ Some k → n ≤ k)).
    let here : q n ≡ true = ap q (sym first.0) ∙ h in
    let low : Bounds n (least ns) = bound (least ns) n first.1 in
    ap (λ b. least (cond b (n ∷ filter q ns) (filter q ns))) here
    ∙ lesser_bound n (least (filter q ns)) (bounds_least n (filter q ns) (bounds_filter q n ns (least_bounds n ns low)))
    ∙ ap Some (sym first.0))
    (λ (later : (least ns ≡ Some m) × (m ≤ n)). by (q n) (least_kept q ns m later.0 h) later.1)
    (lesser_some n (least ns) m e)
  where
    bound : (o : Option ℕ) (k : ℕ) → ((j : ℕ) → o ≡ Some j → k ≤ j) → Bounds k o
    bound None k f = tt
    bound (Some j) k f = f j refl

    by : (b : Bool) → least (filter q ns) ≡ Some m → m ≤ n → least (cond b (n ∷ filter q ns) (filter q ns)) ≡ Some m
    by true rest low = lesser_other n m (least (filter q ns)) rest low
    by false rest low = rest

-- the next number that passes, where the next one does
pub next_passes : (after m : ℕ) (q : ℕ → Bool) (ns : List ℕ) → least (filter (nat_lt after) ns) ≡ Some m → q m ≡ true → least (filter (λ n. nat_lt after n && q n) ns) ≡ Some m
next_passes after m q ns e h = ap least (filter-and (nat_lt after) q ns) ∙ least_kept q (filter (nat_lt after) ns) m e h

pub none_passes : (after : ℕ) (q : ℕ → Bool) (ns : List ℕ) → least (filter (nat_lt after) ns) ≡ None → least (filter (λ n. nat_lt after n && q n) ns) ≡ None
none_passes after q ns e = ap least (filter-and (nat_lt after) q ns) ∙ ap (λ ms. least (filter q ms)) (least_none (filter (nat_lt after) ns) e)

agree : (p q : ℕ → Bool) (ns : List ℕ) → AllByRecursion (λ n. p n ≡ q n) ns → filter p ns ≡ filter q ns
agree p q [] h = refl
agree p q (n ∷ ns) h = ap (λ b. cond b (n ∷ filter p ns) (filter p ns)) h.0 ∙ ap (λ ms. cond (q n) (n ∷ ms) ms) (agree p q ns h.1)

-- a next number that fails is passed over
pub next_fails : (after m : ℕ) (q : ℕ → Bool) (ns : List ℕ) → least (filter (nat_lt after) ns) ≡ Some m → q m ≡ false
    → least (filter (λ n. nat_lt m n && q n) ns) ≡ least (filter (λ n. nat_lt after n && q n) ns)
next_fails after m q ns e h =
    let above = least_above after m ns e in
    ap least (agree (λ n. nat_lt m n && q n) (λ n. nat_lt after n && q n) ns
    (recursion_from_All (λ n. (nat_lt m n && q n) ≡ (nat_lt after n && q n)) ns
    (All-weaker (λ n. after < n → m ≤ n) (λ n. (nat_lt m n && q n) ≡ (nat_lt after n && q n)) (λ n low. one n above.1 low) ns above.2)))
  where
    one : (n : ℕ) → after < m → (after < n → m ≤ n) → (nat_lt m n && q n) ≡ (nat_lt after n && q n)
    one n up low = ⊎_elim
        (λ (k : m < n). let more : after < n = omega arith in rw (lt-ltb m n k, lt-ltb after n more) refl)
        (λ (k : n ≤ m). ⊎_elim (λ (j : n < m). below n j low) (λ (j : m ≤ n). let same : m ≡ n = omega arith in at n same) (cases_lt n m))
        (cases_lt m n)
      where
        not_less : (a b : ℕ) → b ≤ a → nat_lt a b ≡ false
        not_less a b k = ⊎_elim (λ (j : a < b). absurd (omega arith)) (λ (j : b ≤ a). no (nat_lt a b) refl) (cases_lt a b)
          where
            no : (t : Bool) → nat_lt a b ≡ t → t ≡ false
            no false i = refl
            no true i = let less : a < b = ltb-true a b i in absurd (omega arith)

        below : (n : ℕ) → n < m → (after < n → m ≤ n) → (nat_lt m n && q n) ≡ (nat_lt after n && q n)
        below n j low =
            let under : n ≤ m = omega arith in
            let past : n ≤ after = ⊎_elim (λ (i : after < n). let high : m ≤ n = low i in absurd (omega arith)) (λ (i : n ≤ after). i) (cases_lt after n) in
            rw (not_less m n under, not_less after n past) refl

        at : (n : ℕ) → m ≡ n → (nat_lt m n && q n) ≡ (nat_lt after n && q n)
        at n same =
            let fails : q n ≡ false = ap q (sym same) ∙ h in
            rw fails (both (nat_lt m n) (nat_lt after n))
          where
            both : (a b : Bool) → (a && false) ≡ (b && false)
            both true true = refl
            both true false = refl
            both false true = refl
            both false false = refl
