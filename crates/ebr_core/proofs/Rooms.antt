-- The room that the history has for the last entries of the sessions.
use Rattle.std.proofs.Common.{◌≡◌, ℕ, zero, suc, ◌+◌, ◌-◌, ◌≤◌, Bool, true, false, ◌||◌, List, [], ◌∷◌, ◌++◌, length, refl, sym, ap, ◌∙◌, arith, if◌then◌else◌, append-nil}
use Rattle.std.specs.Prelude.{◌==◌, filter, map, slice_set}
use Rattle.std.specs.Cmp.{unsigned_Decides}
use Rattle.std.specs.List.{list_any}
use Rattle.std.proofs.lemmas.List.{map-append}
use Rattle.std.proofs.lemmas.List.Elements.{filter-append}
use Rattle.ebr_base.specs.declared.numbers.SessionId.{SessionId}
use Rattle.ebr_asks.specs.declared.entry.Entry.{Entry}
use Rattle.ebr_asks.specs.declared.entry.Exchange.{Exchange}
use Rattle.ebr_core.specs.History.{Mine, exchange, is_of, is_short, wants}
use Rattle.ebr_core.specs.inside.Parts.{last_entries, live_count, lives_at, needs, room_needed}
use Rattle.ebr_core.proofs.Lives.{one_left}

-- ---- who was answered that there is no memory

not_true : (b : Bool) → (b ≡ true → ⊥) → b ≡ false
not_true true never = absurd (never refl)
not_true false never = refl

same_number : (m n : ℕ) → m ≡ n → (m == n) ≡ true
same_number m n same = (unsigned_Decides m n).1 same

other_number : (m n : ℕ) → (m ≡ n → ⊥) → (m == n) ≡ false
other_number m n other = not_true (m == n) (λ is. other ((unsigned_Decides m n).0 is))

mine_one : (x : Entry) (s : SessionId) (b : Bool) → is_of s x ≡ b → (h : List Entry) → Mine (h ++ x ∷ []) s ≡ Mine h s ++ (if b then exchange x ∷ [] else [])
mine_one x s b is h =
    ap (map exchange) (filter-append (is_of s) h (x ∷ [])) ∙ map-append exchange (filter (is_of s) h) (filter (is_of s) (x ∷ [])) ∙ ap (λ l. Mine h s ++ l) (ap (λ c. map exchange (if c then x ∷ [] else [])) is ∙ only b)
  where
    only : (b : Bool) → map exchange (if b then x ∷ [] else []) ≡ (if b then exchange x ∷ [] else [])
    only true = refl
    only false = refl

any-append : (p : Exchange → Bool) (xs ys : List Exchange) → list_any p (xs ++ ys) ≡ (list_any p xs || list_any p ys)
any-append p [] ys = refl
any-append p (x ∷ xs) ys = ap (λ b. p x || b) (any-append p xs ys) ∙ assoc (p x) (list_any p xs) (list_any p ys)
  where
    assoc : (a b c : Bool) → (a || (b || c)) ≡ ((a || b) || c)
    assoc true b c = refl
    assoc false b c = refl

or_false : (b : Bool) → (b || false) ≡ b
or_false true = refl
or_false false = refl

-- another session's entry says nothing of it, ..
pub short_other : (h : List Entry) (x : Entry) (s : SessionId) → (x.session.0 ≡ s.0 → ⊥) → is_short (h ++ x ∷ []) s ≡ is_short h s
short_other h x s other =
    ap (λ mine. list_any (λ (y : Exchange). wants y.answer) mine) (mine_one x s false (other_number x.session.0 s.0 other) h ∙ append-nil (Mine h s))

-- .. and its own does
pub short_own : (h : List Entry) (x : Entry) (s : SessionId) → x.session.0 ≡ s.0 → is_short (h ++ x ∷ []) s ≡ (is_short h s || wants x.answer)
short_own h x s same =
    ap (λ mine. list_any (λ (y : Exchange). wants y.answer) mine) (mine_one x s true (same_number x.session.0 s.0 same) h)
    ∙ any-append (λ (y : Exchange). wants y.answer) (Mine h s) (exchange x ∷ []) ∙ ap (λ b. is_short h s || b) (or_false (wants x.answer))

-- ---- the last entries

one_most : (b short : Bool) → last_entries b short ≤ 2
one_most true true = omega arith
one_most true false = omega arith
one_most false short = omega arith

pub needs_most : (f : ℕ → Bool) (n : ℕ) (bs : List Bool) → needs f n bs ≤ length bs + length bs
needs_most f n [] = omega arith
needs_most f n (b ∷ bs) = let h = needs_most f (suc n) bs in let e = one_most b (f n) in omega (arith, h, e)

-- each live session makes one entry at least
pub needs_least : (f : ℕ → Bool) (n : ℕ) (bs : List Bool) → live_count bs ≤ needs f n bs
needs_least f n [] = omega arith
needs_least f n (true ∷ bs) = let h = needs_least f (suc n) bs in let e = one (f n) in omega (arith, h, e)
  where
    one : (short : Bool) → 1 ≤ last_entries true short
    one true = omega arith
    one false = omega arith
needs_least f n (false ∷ bs) = let h = needs_least f (suc n) bs in omega (arith, h)

needs_same : (f g : ℕ → Bool) (n : ℕ) (bs : List Bool) → ((m : ℕ) → n ≤ m → f m ≡ g m) → needs f n bs ≡ needs g n bs
needs_same f g n [] same = refl
needs_same f g n (b ∷ bs) same = ap (λ c. last_entries b c + needs f (suc n) bs) (same n (omega arith)) ∙ ap (λ k. last_entries b (g n) + k) (needs_same f g (suc n) bs (λ m h. same m (omega (arith, h))))

-- where one session is told otherwise
needs_but : (f g : ℕ → Bool) (n k : ℕ) (bs : List Bool) → ((m : ℕ) → (m ≡ n + k → ⊥) → f m ≡ g m) → lives_at bs (suc k) ≡ true
    → needs f n bs + last_entries true (g (n + k)) ≡ needs g n bs + last_entries true (f (n + k))
needs_but f g n k [] same is = cc
needs_but f g n zero (b ∷ bs) same is =
    let at : n + zero ≡ n = omega arith in
    let rest : needs f (suc n) bs ≡ needs g (suc n) bs = needs_same f g (suc n) bs (λ m h. same m (λ e. omega (arith, h, e))) in
    let here : last_entries b (f n) ≡ last_entries true (f n) = ap (λ c. last_entries c (f n)) is in
    let there : last_entries b (g n) ≡ last_entries true (g n) = ap (λ c. last_entries c (g n)) is in
    let fs : last_entries true (f (n + zero)) ≡ last_entries true (f n) = ap (λ m. last_entries true (f m)) at in
    let gs : last_entries true (g (n + zero)) ≡ last_entries true (g n) = ap (λ m. last_entries true (g m)) at in
    omega (arith, rest, here, there, fs, gs)
needs_but f g n (suc k) (b ∷ bs) same is =
    let at : n + suc k ≡ suc n + k = omega arith in
    let rest : needs f (suc n) bs + last_entries true (g (suc n + k)) ≡ needs g (suc n) bs + last_entries true (f (suc n + k)) = needs_but f g (suc n) k bs (λ m h. same m (λ e. h (e ∙ at))) is in
    let here : last_entries b (f n) ≡ last_entries b (g n) = ap (last_entries b) (same n (λ e. omega (arith, e))) in
    let fs : last_entries true (f (n + suc k)) ≡ last_entries true (f (suc n + k)) = ap (λ m. last_entries true (f m)) at in
    let gs : last_entries true (g (n + suc k)) ≡ last_entries true (g (suc n + k)) = ap (λ m. last_entries true (g m)) at in
    omega (arith, rest, here, fs, gs)

-- a session leaves
needs_left : (f : ℕ → Bool) (n k : ℕ) (bs : List Bool) → lives_at bs (suc k) ≡ true → needs f n (slice_set bs k false) + last_entries true (f (n + k)) ≡ needs f n bs
needs_left f n k [] is = cc
needs_left f n zero (b ∷ bs) is =
    let here : last_entries b (f n) ≡ last_entries true (f n) = ap (λ c. last_entries c (f n)) is in
    let fs : last_entries true (f (n + zero)) ≡ last_entries true (f n) = ap (λ m. last_entries true (f m)) (omega arith) in
    omega (arith, here, fs)
needs_left f n (suc k) (b ∷ bs) is =
    let rest : needs f (suc n) (slice_set bs k false) + last_entries true (f (suc n + k)) ≡ needs f (suc n) bs = needs_left f (suc n) k bs is in
    let fs : last_entries true (f (n + suc k)) ≡ last_entries true (f (suc n + k)) = ap (λ m. last_entries true (f m)) (omega arith) in
    omega (arith, rest, fs)

least_one : (short : Bool) → 1 ≤ last_entries true short
least_one true = omega arith
least_one false = omega arith

-- ---- with one entry more

module _ (h : List Entry) (x : Entry) (living : List Bool) (s : SessionId) (of : x.session.0 ≡ s.0) (is : lives_at living s.0 ≡ true) where
  abbrev before : ℕ → Bool
  before n = is_short h (record { 0 = n })

  abbrev after : ℕ → Bool
  after n = is_short (h ++ x ∷ []) (record { 0 = n })

  others : (m : ℕ) → (m ≡ s.0 → ⊥) → after m ≡ before m
  others m differ = short_other h x (record { 0 = m }) (λ same. differ (sym same ∙ of))

  place : (m : ℕ) → s.0 ≡ m → lives_at living m ≡ true → (k : ℕ) × (m ≡ suc k)
  place zero at lives = cc
  place (suc k) at lives = (k, refl)

  -- an entry that says nothing of memory
  pub needs_kept : wants x.answer ≡ false → room_needed (h ++ x ∷ []) living ≡ room_needed h living
  needs_kept none = needs_same after before 1 living (λ m low. all m (m == s.0) refl)
    where
      all : (m : ℕ) (b : Bool) → (m == s.0) ≡ b → after m ≡ before m
      all m true e = let at : m ≡ s.0 = (unsigned_Decides m s.0).0 e in short_own h x (record { 0 = m }) (of ∙ sym at) ∙ ap (λ b. before m || b) none ∙ or_false (before m)
      all m false e = others m (λ same. not_both (m == s.0) e (same_number m s.0 same))
        where
          not_both : (b : Bool) → b ≡ false → b ≡ true → ⊥
          not_both b off on = cc

  -- one that there is no memory, of a session of which there was none
  pub needs_short : wants x.answer ≡ true → is_short h s ≡ false → room_needed (h ++ x ∷ []) living + 1 ≡ room_needed h living
  needs_short wanting long =
      let p = place s.0 refl is in
      let at : 1 + p.0 ≡ s.0 = omega (arith, p.1) in
      let b : before (1 + p.0) ≡ false = ap before at ∙ long in
      let a : after (1 + p.0) ≡ true = ap after at ∙ short_own h x s of ∙ ap (λ c. is_short h s || c) wanting ∙ or_true (is_short h s) in
      let but = needs_but after before 1 p.0 living (λ m differ. others m (λ same. differ (same ∙ sym at))) (ap (lives_at living) (sym p.1) ∙ is) in
      let one : last_entries true (after (1 + p.0)) ≡ 1 = ap (last_entries true) a in
      let two : last_entries true (before (1 + p.0)) ≡ 2 = ap (last_entries true) b in
      omega (arith, but, one, two)
    where
      or_true : (b : Bool) → (b || true) ≡ true
      or_true true = refl
      or_true false = refl

  -- a Leave
  pub needs_leave : wants x.answer ≡ false → room_needed (h ++ x ∷ []) (slice_set living (s.0 - 1) false) + 1 ≤ room_needed h living
  needs_leave none =
      let p = place s.0 refl is in
      let same : needs after 1 living ≡ needs before 1 living = needs_kept none in
      let left = needs_left after 1 p.0 living (ap (lives_at living) (sym p.1) ∙ is) in
      let one = least_one (after (1 + p.0)) in
      let at : needs after 1 (slice_set living (s.0 - 1) false) ≡ needs after 1 (slice_set living p.0 false) = ap (λ k. needs after 1 (slice_set living k false)) (omega (arith, p.1)) in
      omega (arith, same, left, one, at)

abbrev short_at : List Entry → ℕ → Bool
short_at h n = is_short h (record { 0 = n })

-- a session that isn't short may still make two entries, and each other one that lives makes one at least
pub needs_more : (h : List Entry) (living : List Bool) (s : SessionId) → lives_at living s.0 ≡ true → is_short h s ≡ false → live_count living + 1 ≤ room_needed h living
needs_more h living s is long = by s.0 refl is
  where
    by : (m : ℕ) → s.0 ≡ m → lives_at living m ≡ true → live_count living + 1 ≤ needs (short_at h) 1 living
    by zero at lives = cc
    by (suc k) at lives =
        let left = needs_left (short_at h) 1 k living lives in
        let rest = needs_least (short_at h) 1 (slice_set living k false) in
        let count : live_count (slice_set living (suc k - 1) false) + 1 ≡ live_count living = one_left living (suc k) lives in
        let place : live_count (slice_set living (suc k - 1) false) ≡ live_count (slice_set living k false) = ap (λ j. live_count (slice_set living j false)) (omega arith) in
        let two : last_entries true (short_at h (1 + k)) ≡ 2 = ap (last_entries true) (ap (short_at h) (omega (arith, at)) ∙ long) in
        omega (arith, left, rest, count, place, two)
