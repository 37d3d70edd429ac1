-- What the index says of the locks, and how it stays with one more lock and with one fewer.
use Rattle.std.proofs.Common.{◌≡◌, ◌<◌, ◌≤◌, ◌⊎◌, inl, inr, ⊎_elim, Bool, true, false, not, cond, ◌&&◌, ◌||◌, ◌==◌, List, [], ◌∷◌, ◌++◌, Option, Some, None, option_map, refl, sym, ap, ◌∙◌, subst, arith}
use Rattle.std.specs.Prelude.{find, is_some, IfSome, IfNone}
use Rattle.std.specs.List.{list_any}
use Rattle.std.specs.Bool.{OnTrue, OnFalse}
use Rattle.std.proofs.lemmas.Bool.{false≢true, true≢false, both_ways, and_parts, and_from, or_parts, or_cases, or_left, or_right, eqb-true, eq-eqb, cases_lt, false_from_ne_true, not-true}
use Rattle.std.proofs.lemmas.List.{append-nil}
use Rattle.std.proofs.lemmas.List.Folds.{list_any-append}
use Rattle.ebr_base.specs.declared.numbers.TableId.{TableId}
use Rattle.ebr_base.specs.declared.row.RowId.{RowId}
use Rattle.ebr_base.specs.declared.row.TxId.{TxId}
use Rattle.ebr_spots.specs.declared.spot.Spot.{Spot}
use Rattle.ebr_spots.specs.Spots.{has, is_spot, IsFirstFrom, IsNoneFrom, IsNextNumber, IsNoNextNumber}
use Rattle.ebr_spots.proofs.Order.{is_spot-true, is_spot-same}
use Rattle.ebr_locks.specs.Locks.{Lock, same_row, same_tx, is_of, holder_of, is_held_in, is_locked, IsLockedOnce}
use Rattle.ebr_locks.specs.inside.Filed.{row_spot, table_spot, tx_number, AreSpotsOf, AddsSpot, LeavesSpots, RemovesSpot, SomeBelow, NoneBelow, Fit, with_place}
use Rattle.ebr_locks.proofs.Taken.{row-same, tx-same, row-itself, row-back, free-row}

-- ---- one spot for each lock

or_more : (a b : Bool) → b ≡ false → a ≡ (a || b)
or_more true b e = refl
or_more false b e = sym e

module _ (l : Lock) (f : Lock → Spot) where
  pub adds_spot : (k : Spot) → k ≡ f l → (old new : List Spot) → ((q : Spot) → has new q ≡ cond (is_spot k q) true (has old q)) → AddsSpot l f old new
  adds_spot k is old new added locks h q = added q ∙ ap (λ s. cond (is_spot s q) true (has old q)) is ∙ by (is_spot (f l) q) refl ∙ sym (list_any-append (λ m. is_spot (f m) q) locks (l ∷ []))
    where
      by : (b : Bool) → is_spot (f l) q ≡ b → cond b true (has old q) ≡ (list_any (λ m. is_spot (f m) q) locks || (is_spot (f l) q || false))
      by true e = sym (or_right (list_any (λ m. is_spot (f m) q) locks) (is_spot (f l) q || false) (or_left (is_spot (f l) q) false e))
      by false e = h q ∙ or_more (list_any (λ m. is_spot (f m) q) locks) (is_spot (f l) q || false) (ap (λ b. b || false) e)

  module _ (rows : (m : Lock) → is_spot (f m) (f l) ≡ true → same_row m.0 l.0 ≡ true) where
    none_passes : (locks : List Lock) → is_locked l.0 locks ≡ false → list_any (λ m. is_spot (f m) (f l)) locks ≡ false
    none_passes [] e = refl
    none_passes (m ∷ ms) e =
        let parts = or_parts (same_row m.0 l.0) (is_locked l.0 ms) e in
        let here : is_spot (f m) (f l) ≡ false = false_from_ne_true (is_spot (f m) (f l)) (λ s. both_ways (same_row m.0 l.0) parts.0 (rows m s)) in
        rw here (none_passes ms parts.1)

    pub removes_spot : (k : Spot) → k ≡ f l → (old new : List Spot) → ((q : Spot) → has new q ≡ cond (is_spot k q) false (has old q)) → RemovesSpot l f old new
    removes_spot k is old new removed front back free h q = removed q ∙ ap (λ s. cond (is_spot s q) false (has old q)) is ∙ by (is_spot (f l) q) refl
      where
        by : (b : Bool) → is_spot (f l) q ≡ b → cond b false (has old q) ≡ list_any (λ m. is_spot (f m) q) (front ++ back)
        by true e = sym (subst (λ (q : Spot). list_any (λ m. is_spot (f m) q) (front ++ back) ≡ false) (is_spot-true (f l) q e) (none_passes (front ++ back) free))
        by false e =
            h q ∙ list_any-append (λ m. is_spot (f m) q) front (l ∷ back)
            ∙ ap (λ b. list_any (λ m. is_spot (f m) q) front || (b || list_any (λ m. is_spot (f m) q) back)) e
            ∙ sym (list_any-append (λ m. is_spot (f m) q) front back)

  -- added and taken out again
  pub leaves_spots : (old mid new : List Spot) → AddsSpot l f old mid → RemovesSpot l f mid new → LeavesSpots l f old new
  leaves_spots old mid new adds removes locks free h =
      subst (AreSpotsOf f new) (append-nil locks) (removes locks [] (subst (λ ls. is_locked l.0 ls ≡ false) (sym (append-nil locks)) free) (adds locks h))

-- locks at one spot are of one row
pub row_spots : (l m : Lock) → is_spot (row_spot m) (row_spot l) ≡ true → same_row m.0 l.0 ≡ true
row_spots l m e =
    let same : row_spot m ≡ row_spot l = is_spot-true (row_spot m) (row_spot l) e in
    and_from (m.0.table.0 == l.0.table.0) (m.0.row.0 == l.0.row.0) (eq-eqb m.0.table.0 l.0.table.0 (ap (λ (s : Spot). s.table) same)) (eq-eqb m.0.row.0 l.0.row.0 (ap (λ (s : Spot). s.number) same))

pub table_spots : (l m : Lock) → is_spot (table_spot m) (table_spot l) ≡ true → same_row m.0 l.0 ≡ true
table_spots l m e =
    let same : table_spot m ≡ table_spot l = is_spot-true (table_spot m) (table_spot l) e in
    and_from (m.0.table.0 == l.0.table.0) (m.0.row.0 == l.0.row.0) (eq-eqb m.0.table.0 l.0.table.0 (ap (λ (s : Spot). s.table) same)) (eq-eqb m.0.row.0 l.0.row.0 (ap (λ (s : Spot). s.place) same))

-- ---- who holds a row

abbrev pub Among : List Lock → Lock → Type 0
Among [] l = ⊥
Among (m ∷ ms) l = (m ≡ l) ⊎ Among ms l

among_any : (p : Lock → Bool) (locks : List Lock) → list_any p locks ≡ true → (l : Lock) × Among locks l × (p l ≡ true)
among_any p [] e = absurd (false≢true e)
among_any p (m ∷ ms) e = ⊎_elim (λ (h : p m ≡ true). (m, inl refl, h)) (λ (h : list_any p ms ≡ true). let r = among_any p ms h in (r.0, inr r.1, r.2)) (or_cases (p m) (list_any p ms) e)

any_among : (p : Lock → Bool) (locks : List Lock) (l : Lock) → Among locks l → p l ≡ true → list_any p locks ≡ true
any_among p [] l a e = absurd a
any_among p (m ∷ ms) l (inl is) e = or_left (p m) (list_any p ms) (ap p is ∙ e)
any_among p (m ∷ ms) l (inr a) e = or_right (p m) (list_any p ms) (any_among p ms l a e)

fits_among : (locks : List Lock) (l : Lock) → Fit locks → Among locks l → l.1.depth ≤ 4294967295
fits_among [] l f a = absurd a
fits_among (m ∷ ms) l f (inl is) = subst (λ (x : Lock). x.1.depth ≤ 4294967295) is f.0
fits_among (m ∷ ms) l f (inr a) = fits_among ms l f.1 a

holder_among : (locks : List Lock) (l : Lock) (row : RowId) → IsLockedOnce locks → Among locks l → same_row l.0 row ≡ true → holder_of row locks ≡ Some l.1
holder_among [] l row once a e = absurd a
holder_among (m ∷ ms) l row once (inl is) e = let here : same_row m.0 row ≡ true = ap (λ (x : Lock). same_row x.0 row) is ∙ e in rw here (ap (λ (x : Lock). Some x.1) is)
holder_among (m ∷ ms) l row once (inr a) e =
    let other : same_row m.0 row ≡ false = false_from_ne_true (same_row m.0 row) (λ h.
    let one : l.0 ≡ m.0 = row-same l.0 row e ∙ sym (row-same m.0 row h) in
    both_ways (is_locked m.0 ms) once.0 (any_among (λ x. same_row x.0 m.0) ms l a (ap (λ r. same_row r m.0) one ∙ row-itself m.0))) in
    rw other (holder_among ms l row once.1 a e)

holder_none : (locks : List Lock) (row : RowId) → is_locked row locks ≡ false → holder_of row locks ≡ None
holder_none [] row e = refl
holder_none (m ∷ ms) row e = let parts = or_parts (same_row m.0 row) (is_locked row ms) e in rw parts.0 (holder_none ms row parts.1)

module _ (rows : List Spot) (locks : List Lock) (are : AreSpotsOf row_spot rows locks) (fit : Fit locks) (once : IsLockedOnce locks) (row : RowId) where
  -- the lock at a spot of the row
  lock_at : (k : Spot) → has rows k ≡ true → k.table ≡ row.table.0 → k.number ≡ row.row.0 → (l : Lock) × Among locks l × (row_spot l ≡ k) × (same_row l.0 row ≡ true)
  lock_at k here t n =
      let l = among_any (λ m. is_spot (row_spot m) k) locks (sym (are k) ∙ here) in
      let is : row_spot l.0 ≡ k = is_spot-true (row_spot l.0) k l.2 in
      (l.0, l.1, is, and_from (l.0.0.table.0 == row.table.0) (l.0.0.row.0 == row.row.0) (eq-eqb l.0.0.table.0 row.table.0 (ap (λ (s : Spot). s.table) is ∙ t)) (eq-eqb l.0.0.row.0 row.row.0 (ap (λ (s : Spot). s.number) is ∙ n)))

  pub holder_fits : (k from : Spot) → from ≡ record { table = row.table.0; number = row.row.0; list = 0; place = 0 } → IsFirstFrom rows from k → k.place ≤ 4294967295
  holder_fits k from is h =
      let first : IsFirstFrom rows (record { table = row.table.0; number = row.row.0; list = 0; place = 0 }) k = subst (λ (f : Spot). IsFirstFrom rows f k) is h in
      let l = lock_at k first.here first.table first.number in
      subst (λ n. n ≤ 4294967295) (ap (λ (s : Spot). s.place) l.2) (fits_among locks l.0 fit l.1)

  pub holder_found : (k from : Spot) (by : TxId) → from ≡ record { table = row.table.0; number = row.row.0; list = 0; place = 0 } → IsFirstFrom rows from k
      → by.session.0 ≡ k.list → (k.place ≤ 4294967295 → by.depth ≡ k.place) → Some by ≡ holder_of row locks
  holder_found k from by is h session depth =
      let first : IsFirstFrom rows (record { table = row.table.0; number = row.row.0; list = 0; place = 0 }) k = subst (λ (f : Spot). IsFirstFrom rows f k) is h in
      let l = lock_at k first.here first.table first.number in
      let low : k.place ≤ 4294967295 = subst (λ n. n ≤ 4294967295) (ap (λ (s : Spot). s.place) l.2) (fits_among locks l.0 fit l.1) in
      let d : by.depth ≡ l.0.1.depth = depth low ∙ ap (λ (s : Spot). s.place) (sym l.2) in
      let s : by.session.0 ≡ l.0.1.session.0 = session ∙ ap (λ (s : Spot). s.list) (sym l.2) in
      let same : by ≡ l.0.1 = λ i. record { session = record { 0 = s i }; depth = d i } in
      ap (λ t. Some t) same ∙ sym (holder_among locks l.0 row once l.1 l.3)

  pub holder_not_found : (from : Spot) → from ≡ record { table = row.table.0; number = row.row.0; list = 0; place = 0 } → IsNoneFrom rows from → None ≡ holder_of row locks
  holder_not_found from is h =
      let none : IsNoneFrom rows (record { table = row.table.0; number = row.row.0; list = 0; place = 0 }) = subst (λ (f : Spot). IsNoneFrom rows f) is h in
      sym (holder_none locks row (false_from_ne_true (is_locked row locks) (λ e.
      let l = among_any (λ m. same_row m.0 row) locks e in
      let one : l.0.0 ≡ row = row-same l.0.0 row l.2 in
      let k : Spot = record { table = row.table.0; number = row.row.0; list = l.0.1.session.0; place = l.0.1.depth } in
      let spot : row_spot l.0 ≡ k = λ i. record { table = (one i).table.0; number = (one i).row.0; list = l.0.1.session.0; place = l.0.1.depth } in
      let here : has rows k ≡ true = are k ∙ any_among (λ m. is_spot (row_spot m) k) locks l.0 l.1 (ap (λ s. is_spot s k) spot ∙ is_spot-same k) in
      false≢true (sym (none l.0.1.session.0 l.0.1.depth (record { list = omega arith; place = λ _. omega arith })) ∙ here))))

-- ---- whether another transaction holds a row of a table

number_one : (a b : TxId) → a.depth ≤ 4294967295 → b.depth ≤ 4294967295 → tx_number a ≡ tx_number b → a ≡ b
number_one a b fa fb e =
    let s : a.session.0 ≡ b.session.0 = omega (arith, fa, fb, e) in
    let d : a.depth ≡ b.depth = omega (arith, fa, fb, e) in
    λ i. record { session = record { 0 = s i }; depth = d i }

module _ (tables : List Spot) (locks : List Lock) (are : AreSpotsOf table_spot tables locks) (fit : Fit locks) (table : TableId) (but : TxId) (low : but.depth ≤ 4294967295) where
  abbrev held_by_other : Lock → Bool
  held_by_other l = l.0.table.0 == table.0 && not (is_of but l)

  -- a spot of the table and of another number is a lock of another transaction
  other_there : (k : Spot) → has tables k ≡ true → k.table ≡ table.0 → (k.number ≡ tx_number but → ⊥) → is_held_in table but locks ≡ true
  other_there k here t other =
      let l = among_any (λ m. is_spot (table_spot m) k) locks (sym (are k) ∙ here) in
      let is : table_spot l.0 ≡ k = is_spot-true (table_spot l.0) k l.2 in
      let in_table : (l.0.0.table.0 == table.0) ≡ true = eq-eqb l.0.0.table.0 table.0 (ap (λ (s : Spot). s.table) is ∙ t) in
      let not_its : is_of but l.0 ≡ false = false_from_ne_true (is_of but l.0) (λ e. other (ap (λ (s : Spot). s.number) (sym is) ∙ ap tx_number (tx-same l.0.1 but e))) in
      any_among held_by_other locks l.0 l.1 (and_from (l.0.0.table.0 == table.0) (not (is_of but l.0)) in_table (ap not not_its))

  -- a lock of another transaction is a spot of the table and of another number
  other_spot : is_held_in table but locks ≡ true → (k : Spot) × (has tables k ≡ true) × (k.table ≡ table.0) × (k.number ≡ tx_number but → ⊥)
  other_spot e =
      let l = among_any held_by_other locks e in
      let parts = and_parts (l.0.0.table.0 == table.0) (not (is_of but l.0)) l.2 in (
        table_spot l.0,
        are (table_spot l.0) ∙ any_among (λ m. is_spot (table_spot m) (table_spot l.0)) locks l.0 l.1 (is_spot-same (table_spot l.0)),
        eqb-true l.0.0.table.0 table.0 parts.0,
        λ n. both_ways (is_of but l.0) (not-true (is_of but l.0) parts.1) (ap (λ (t : TxId). same_tx t but) (number_one l.0.1 but (fits_among locks l.0 fit l.1) low n)
            ∙ and_from (but.session.0 == but.session.0) (but.depth == but.depth) (eq-eqb but.session.0 but.session.0 refl) (eq-eqb but.depth but.depth refl)),
      )

  pub held_above : (o : Option Spot) → is_some o ≡ true → IfSome o (IsNextNumber tables table.0 (tx_number but)) → true ≡ is_held_in table but locks
  held_above None e h = absurd (false≢true e)
  held_above (Some k) e h = sym (other_there k h.here h.table_is (λ n. let up : tx_number but < k.number = h.above in omega (arith, up, n)))

  pub held_below : (o : Option Spot) (b : Bool) → is_some o ≡ false → IfNone o (IsNoNextNumber tables table.0 (tx_number but)) → OnTrue b (SomeBelow tables table.0 (tx_number but)) → OnFalse b (NoneBelow tables table.0 (tx_number but))
      → b ≡ is_held_in table but locks
  held_below (Some k) b e h some none = absurd (true≢false e)
  held_below None true e h some none = sym (other_there some.0 some.1 some.2 (λ n. let down : some.0.number < tx_number but = some.3 in omega (arith, down, n)))
  held_below None false e h some none = sym (false_from_ne_true (is_held_in table but locks) (λ held.
      let k = other_spot held in
      ⊎_elim
      (λ (below : k.0.number < tx_number but). false≢true (sym (none k.0 k.2 below) ∙ k.1))
      (λ (up : tx_number but ≤ k.0.number).
      ⊎_elim (λ (above : tx_number but < k.0.number). false≢true (sym (h k.0 k.2 above) ∙ k.1)) (λ (same : k.0.number ≤ tx_number but). k.3 (omega (arith, up, same))) (cases_lt (tx_number but) k.0.number))
      (cases_lt k.0.number (tx_number but))))

-- ---- all of it

pub fit_push : (locks : List Lock) (l : Lock) → Fit locks → l.1.depth ≤ 4294967295 → Fit (locks ++ l ∷ [])
fit_push [] l f h = (h, tt)
fit_push (m ∷ ms) l f h = (f.0, fit_push ms l f.1 h)

pub fit_less : (front back : List Lock) (l : Lock) → Fit (front ++ l ∷ back) → Fit (front ++ back)
fit_less [] back l f = f.1
fit_less (m ∷ ms) back l f = (f.0, fit_less ms back l f.1)

pub once_less : (front back : List Lock) (l : Lock) → IsLockedOnce (front ++ l ∷ back) → IsLockedOnce (front ++ back)
once_less [] back l once = once.1
once_less (m ∷ ms) back l once =
    (list_any-append (λ x. same_row x.0 m.0) ms back ∙ dropped (list_any (λ x. same_row x.0 m.0) ms) (same_row l.0 m.0) (list_any (λ x. same_row x.0 m.0) back) (sym (list_any-append (λ x. same_row x.0 m.0) ms (l ∷ back)) ∙ once.0), once_less ms back l once.1)
  where
    dropped : (a b c : Bool) → (a || (b || c)) ≡ false → (a || c) ≡ false
    dropped true b c e = e
    dropped false true c e = absurd (true≢false e)
    dropped false false c e = e

-- the row of a lock isn't locked by the others
pub once_free : (front back : List Lock) (l : Lock) → IsLockedOnce (front ++ l ∷ back) → is_locked l.0 (front ++ back) ≡ false
once_free [] back l once = once.0
once_free (m ∷ ms) back l once =
    let rest : is_locked l.0 (ms ++ back) ≡ false = once_free ms back l once.1 in
    let parts = or_parts (is_locked m.0 ms) (is_locked m.0 (l ∷ back)) (sym (list_any-append (λ x. same_row x.0 m.0) ms (l ∷ back)) ∙ once.0) in
    let other : same_row m.0 l.0 ≡ false = row-back l.0 m.0 (or_parts (same_row l.0 m.0) (is_locked m.0 back) parts.1).0 in
    rw other rest

-- ---- with a place that a reserve made

pub once_taken : (taken : List Lock) (place : Option Lock) → IsLockedOnce (with_place taken place) → IsLockedOnce taken
once_taken taken None once = once
once_taken taken (Some l) once = subst IsLockedOnce (append-nil taken) (once_less taken [] l once)

-- a row that has a place is free
pub place_free : (taken : List Lock) (place : Option Lock) (row : RowId) → IsLockedOnce (with_place taken place) → is_locked row (with_place [] place) ≡ true → None ≡ holder_of row taken
place_free taken None row once e = absurd (false≢true e)
place_free taken (Some l) row once e = sym (holder_none taken row (ap (λ r. is_locked r taken) (sym same) ∙ ap (is_locked l.0) (sym (append-nil taken)) ∙ once_free taken [] l once))
  where
    same : l.0 ≡ row
    same = row-same l.0 row (⊎_elim (λ (h : same_row l.0 row ≡ true). h) (λ (h : false ≡ true). absurd (false≢true h)) (or_cases (same_row l.0 row) false e))

-- another row is held by the same one with the place and without it
pub place_other : (taken : List Lock) (place : Option Lock) (row : RowId) → is_locked row (with_place [] place) ≡ false → holder_of row (with_place taken place) ≡ holder_of row taken
place_other taken None row e = refl
place_other taken (Some l) row e = by taken
  where
    other : same_row l.0 row ≡ false
    other = (or_parts (same_row l.0 row) false e).0

    by : (ls : List Lock) → holder_of row (ls ++ l ∷ []) ≡ holder_of row ls
    by [] = rw other refl
    by (m ∷ ms) = by2 (same_row m.0 row) (by ms)
      where
        by2 : (b : Bool) → holder_of row (ms ++ l ∷ []) ≡ holder_of row ms
            → option_map (λ (x : Lock). x.1) (cond b (Some m) (find (λ (x : Lock). same_row x.0 row) (ms ++ l ∷ []))) ≡ option_map (λ (x : Lock). x.1) (cond b (Some m) (find (λ (x : Lock). same_row x.0 row) ms))
        by2 true h = refl
        by2 false h = h

pub nobody : (row : RowId) (locks : List Lock) (o : Option TxId) (b : Bool) → o ≡ holder_of row locks → b ≡ is_some o → b ≡ false → is_locked row locks ≡ false
nobody row locks None b is some none = free-row row locks (sym is)
nobody row locks (Some t) b is some none = absurd (true≢false (sym some ∙ none))
