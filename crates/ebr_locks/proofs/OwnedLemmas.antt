-- The locks of each transaction in order: what the spots say of them, and how they stay with one more lock and with the last
-- one gone.
use Rattle.std.proofs.Common.{◌≡◌, ◌≢◌, ℕ, zero, suc, ◌+◌, ◌<◌, ◌≤◌, ◌⊎◌, inl, inr, ⊎_elim, Bool, true, false, cond, ◌==◌, List, [], ◌∷◌, ◌++◌, Option, Some, None, length, length-append, refl, sym, ap, ◌∙◌, subst, arith}
use Rattle.std.specs.Prelude.{slice_get, IfSome, IfNone}
use Rattle.std.specs.Map.{values_of}
use Rattle.std.proofs.lemmas.Bool.{false≢true, both_ways, and_parts, and_from, eqb-true, eq-eqb, cases_eq, cases_lt, false_from_ne_true}
use Rattle.std.proofs.lemmas.List.{append-nil, nil_from_length}
use Rattle.std.proofs.lemmas.Option.{slice_get_past, slice_get_within}
use Rattle.ebr_base.specs.declared.numbers.TheConstants.{MAX_COUNT}
use Rattle.ebr_base.specs.declared.row.TxId.{TxId}
use Rattle.ebr_spots.specs.declared.spot.Spot.{Spot}
use Rattle.ebr_spots.specs.Spots.{has, is_spot, IsEarlier, IsNoLater, IsLastBefore, IsNoneBefore}
use Rattle.ebr_spots.proofs.Order.{is_spot-true, is_spot-same}
use Rattle.ebr_locks.specs.Locks.{Lock, locks_of}
use Rattle.ebr_locks.specs.inside.Filed.{Entry, is_owned, numbers_of, is_number, AreOwned, IsLastOf, next_spot, AddsOwned, LeavesOwned}

-- ---- the sequence numbers of a transaction

numbers-append : (s d : ℕ) (xs ys : List Entry) → numbers_of s d (xs ++ ys) ≡ numbers_of s d xs ++ numbers_of s d ys
numbers-append s d [] ys = refl
numbers-append s d (x ∷ xs) ys = by (is_owned s d x.1) (numbers-append s d xs ys)
  where
    by : (b : Bool) → numbers_of s d (xs ++ ys) ≡ numbers_of s d xs ++ numbers_of s d ys
        → cond b (x.0 ∷ numbers_of s d (xs ++ ys)) (numbers_of s d (xs ++ ys)) ≡ cond b (x.0 ∷ numbers_of s d xs) (numbers_of s d xs) ++ numbers_of s d ys
    by true h = ap (λ ns. x.0 ∷ ns) h
    by false h = h

pub numbers-le : (s d : ℕ) (xs : List Entry) → length (numbers_of s d xs) ≤ length xs
numbers-le s d [] = omega arith
numbers-le s d (x ∷ xs) = by (is_owned s d x.1) (numbers-le s d xs)
  where
    by : (b : Bool) → length (numbers_of s d xs) ≤ length xs → length (cond b (x.0 ∷ numbers_of s d xs) (numbers_of s d xs)) ≤ suc (length xs)
    by true h = omega arith
    by false h = omega arith

-- as many as the transaction has locks
pub numbers-length : (tx : TxId) (xs : List Entry) → length (numbers_of tx.session.0 tx.depth xs) ≡ length (locks_of tx (values_of xs))
numbers-length tx [] = refl
numbers-length tx (x ∷ xs) = by (is_owned tx.session.0 tx.depth x.1) (numbers-length tx xs)
  where
    by : (b : Bool) → length (numbers_of tx.session.0 tx.depth xs) ≡ length (locks_of tx (values_of xs))
        → length (cond b (x.0 ∷ numbers_of tx.session.0 tx.depth xs) (numbers_of tx.session.0 tx.depth xs)) ≡ length (cond b (x.1 ∷ locks_of tx (values_of xs)) (locks_of tx (values_of xs)))
    by true h = ap suc h
    by false h = h

pub numbers-one : (s d : ℕ) (e : Entry) → is_owned s d e.1 ≡ true → numbers_of s d (e ∷ []) ≡ e.0 ∷ []
numbers-one s d e own = rw own refl

pub numbers-other : (s d : ℕ) (e : Entry) → is_owned s d e.1 ≡ false → numbers_of s d (e ∷ []) ≡ []
numbers-other s d e other = rw other refl

pub owned-itself : (l : Lock) → is_owned l.1.session.0 l.1.depth l ≡ true
owned-itself l = and_from (l.1.session.0 == l.1.session.0) (l.1.depth == l.1.depth) (eq-eqb l.1.session.0 l.1.session.0 refl) (eq-eqb l.1.depth l.1.depth refl)

not-owned : (s d : ℕ) (l : Lock) → (l.1.session.0 ≡ s → l.1.depth ≡ d → ⊥) → is_owned s d l ≡ false
not-owned s d l other = false_from_ne_true (is_owned s d l) (λ e. let parts = and_parts (l.1.session.0 == s) (l.1.depth == d) e in other (eqb-true l.1.session.0 s parts.0) (eqb-true l.1.depth d parts.1))

-- the entry of a transaction's last number
pub record IsCut (s d number : ℕ) (es front : List Entry) (l : Lock) (back : List Entry) : Type 0 where
  pub split : es ≡ front ++ (number, l) ∷ back
  pub own : is_owned s d l ≡ true
  pub none : numbers_of s d back ≡ []

abbrev pub Cut : ℕ → ℕ → ℕ → List Entry → Type 0
Cut s d number es = (front : List Entry) × (l : Lock) × (back : List Entry) × IsCut s d number es front l back

some-injective : (a b : ℕ) → Some a ≡ Some b → a ≡ b
some-injective a b e = cc

cut-later : (s d number : ℕ) (e : Entry) (es : List Entry) → Cut s d number es → Cut s d number (e ∷ es)
cut-later s d number e es c = (e ∷ c.0, c.1, c.2, record { split = ap (λ ls. e ∷ ls) c.3.split; own = c.3.own; none = c.3.none })

pub last-cut : (s d : ℕ) (es : List Entry) (i number : ℕ) → slice_get (numbers_of s d es) i ≡ Some number → i + 1 ≡ length (numbers_of s d es) → Cut s d number es
last-cut s d [] i number e n = absurd (omega (arith, n))
last-cut s d (x ∷ es) i number e n = by (is_owned s d x.1) refl i e n (last-cut s d es)
  where
    by : (b : Bool) → is_owned s d x.1 ≡ b → (i : ℕ) → slice_get (cond b (x.0 ∷ numbers_of s d es) (numbers_of s d es)) i ≡ Some number → i + 1 ≡ length (cond b (x.0 ∷ numbers_of s d es) (numbers_of s d es))
        → ((i number : ℕ) → slice_get (numbers_of s d es) i ≡ Some number → i + 1 ≡ length (numbers_of s d es) → Cut s d number es) → Cut s d number (x ∷ es)
    by true own zero e n rest =
        let first : x.0 ≡ number = some-injective x.0 number e in
        let none : length (numbers_of s d es) ≡ 0 = omega (arith, n) in
        ([], x.1, es, record { split = ap (λ m. (m, x.1) ∷ es) first; own = own; none = nil_from_length (numbers_of s d es) none })
    by true own (suc i) e n rest = cut-later s d number x es (rest i number e (omega (arith, n)))
    by false own i e n rest = cut-later s d number x es (rest i number e n)

-- ---- one more number, and one fewer

at-end : (ns : List ℕ) (t i p : ℕ) → (i ≡ length ns → t ≡ p → ⊥) → is_number (slice_get ns i) p ≡ is_number (slice_get (ns ++ t ∷ []) i) p
at-end [] t zero p apart = sym (false_from_ne_true (t == p) (λ e. apart refl (eqb-true t p e)))
at-end [] t (suc i) p apart = refl
at-end (n ∷ ns) t zero p apart = refl
at-end (n ∷ ns) t (suc i) p apart = at-end ns t i p (λ e. apart (ap suc e))

get-end : (ns : List ℕ) (t : ℕ) → slice_get (ns ++ t ∷ []) (length ns) ≡ Some t
get-end [] t = refl
get-end (n ∷ ns) t = get-end ns t

module _ (s d t : ℕ) (ns : List ℕ) (few more : ℕ → ℕ → List ℕ) (at_few : few s d ≡ ns) (at_more : more s d ≡ ns ++ t ∷ []) (else : (a b : ℕ) → (s ≡ a → d ≡ b → ⊥) → more a b ≡ few a b) where
  abbrev k : Spot
  k = record { table = s; number = d; list = length ns; place = t }

  abbrev Are : List Spot → (ℕ → ℕ → List ℕ) → Type 0
  Are spots f = (q : Spot) → has spots q ≡ is_number (slice_get (f q.table q.number) q.list) q.place

  -- elsewhere both say the same
  elsewhere : (q : Spot) → is_spot k q ≡ false → is_number (slice_get (few q.table q.number) q.list) q.place ≡ is_number (slice_get (more q.table q.number) q.list) q.place
  elsewhere q other = by (cases_eq s q.table) (cases_eq d q.number)
    where
      by : (s ≡ q.table) ⊎ (s ≢ q.table) → (d ≡ q.number) ⊎ (d ≢ q.number) → is_number (slice_get (few q.table q.number) q.list) q.place ≡ is_number (slice_get (more q.table q.number) q.list) q.place
      by (inl a) (inl b) =
          let is_few : few q.table q.number ≡ ns = ap (λ x. few x q.number) (sym a) ∙ ap (few s) (sym b) ∙ at_few in
          let is_more : more q.table q.number ≡ ns ++ t ∷ [] = ap (λ x. more x q.number) (sym a) ∙ ap (more s) (sym b) ∙ at_more in
          ap (λ xs. is_number (slice_get xs q.list) q.place) is_few
          ∙ at-end ns t q.list q.place (λ l p.
          let same : k ≡ q = λ i. record { table = a i; number = b i; list = sym l i; place = p i } in
          both_ways (is_spot k q) other (ap (is_spot k) (sym same) ∙ is_spot-same k))
          ∙ ap (λ xs. is_number (slice_get xs q.list) q.place) (sym is_more)
      by (inr a) b = ap (λ xs. is_number (slice_get xs q.list) q.place) (sym (else q.table q.number (λ e _. a e)))
      by (inl a) (inr b) = ap (λ xs. is_number (slice_get xs q.list) q.place) (sym (else q.table q.number (λ _ e. b e)))

  here_more : (q : Spot) → is_spot k q ≡ true → is_number (slice_get (more q.table q.number) q.list) q.place ≡ true
  here_more q e = subst (λ (q : Spot). is_number (slice_get (more q.table q.number) q.list) q.place ≡ true) (is_spot-true k q e)
      (ap (λ xs. is_number (slice_get xs (length ns)) t) at_more ∙ ap (λ o. is_number o t) (get-end ns t) ∙ eq-eqb t t refl)

  here_few : (q : Spot) → is_spot k q ≡ true → is_number (slice_get (few q.table q.number) q.list) q.place ≡ false
  here_few q e = subst (λ (q : Spot). is_number (slice_get (few q.table q.number) q.list) q.place ≡ false) (is_spot-true k q e)
      (ap (λ xs. is_number (slice_get xs (length ns)) t) at_few ∙ ap (λ o. is_number o t) (slice_get_past ns (length ns) (omega arith)))

  pub owned_more : (old new : List Spot) → ((q : Spot) → has new q ≡ cond (is_spot k q) true (has old q)) → Are old few → Are new more
  owned_more old new added h q = added q ∙ by (is_spot k q) refl
    where
      by : (b : Bool) → is_spot k q ≡ b → cond b true (has old q) ≡ is_number (slice_get (more q.table q.number) q.list) q.place
      by true e = sym (here_more q e)
      by false e = h q ∙ elsewhere q e

  pub owned_less : (old new : List Spot) → ((q : Spot) → has new q ≡ cond (is_spot k q) false (has old q)) → Are old more → Are new few
  owned_less old new removed h q = removed q ∙ by (is_spot k q) refl
    where
      by : (b : Bool) → is_spot k q ≡ b → cond b false (has old q) ≡ is_number (slice_get (few q.table q.number) q.list) q.place
      by true e = sym (here_few q e)
      by false e = h q ∙ sym (elsewhere q e)

-- one more lock at the end
adds_one : (e : Entry) (k : Spot) (entries : List Entry) (old new : List Spot) → k ≡ next_spot e.1.1 e.0 entries → ((q : Spot) → has new q ≡ cond (is_spot k q) true (has old q)) → AreOwned old entries → AreOwned new (entries ++ e ∷ [])
adds_one e k entries old new is added are =
    let s : ℕ = e.1.1.session.0 in
    let d : ℕ = e.1.1.depth in
    owned_more s d e.0 (numbers_of s d entries) (λ a b. numbers_of a b entries) (λ a b. numbers_of a b (entries ++ e ∷ [])) refl
    (numbers-append s d entries (e ∷ []) ∙ ap (λ ns. numbers_of s d entries ++ ns) (numbers-one s d e (owned-itself e.1)))
    (λ a b other. numbers-append a b entries (e ∷ []) ∙ ap (λ ns. numbers_of a b entries ++ ns) (numbers-other a b e (not-owned a b e.1 other)) ∙ append-nil (numbers_of a b entries))
    old new (λ q. added q ∙ ap (λ (p : Spot). cond (is_spot p q) true (has old q)) is) are

pub adds_owned : (e : Entry) (k : Spot) (old new : List Spot) → ((entries : List Entry) → length entries ≤ MAX_COUNT → AreOwned old entries → k ≡ next_spot e.1.1 e.0 entries)
    → ((q : Spot) → has new q ≡ cond (is_spot k q) true (has old q)) → AddsOwned e old new
adds_owned e k old new is added entries few are = adds_one e k entries old new (is entries few are) added are

-- added and taken out again
pub leaves_owned : (e : Entry) (k : Spot) (old mid new : List Spot) → ((entries : List Entry) → length entries ≤ MAX_COUNT → AreOwned old entries → k ≡ next_spot e.1.1 e.0 entries)
    → ((q : Spot) → has mid q ≡ cond (is_spot k q) true (has old q)) → ((q : Spot) → has new q ≡ cond (is_spot k q) false (has mid q)) → LeavesOwned old new
leaves_owned e k old mid new is added removed entries few are =
    let s : ℕ = e.1.1.session.0 in
    let d : ℕ = e.1.1.depth in
    owned_less s d e.0 (numbers_of s d entries) (λ a b. numbers_of a b entries) (λ a b. numbers_of a b (entries ++ e ∷ [])) refl
    (numbers-append s d entries (e ∷ []) ∙ ap (λ ns. numbers_of s d entries ++ ns) (numbers-one s d e (owned-itself e.1)))
    (λ a b other. numbers-append a b entries (e ∷ []) ∙ ap (λ ns. numbers_of a b entries ++ ns) (numbers-other a b e (not-owned a b e.1 other)) ∙ append-nil (numbers_of a b entries))
    mid new (λ q. removed q ∙ ap (λ (p : Spot). cond (is_spot p q) false (has mid q)) (is entries few are)) (adds_one e k entries old mid (is entries few are) added are)

-- a transaction's last lock is gone
module _ (tx : TxId) (k : Spot) (front : List Entry) (l : Lock) (back : List Entry) (own : is_owned tx.session.0 tx.depth l ≡ true) (none : numbers_of tx.session.0 tx.depth back ≡ []) where
  abbrev s : ℕ
  s = tx.session.0

  abbrev d : ℕ
  d = tx.depth

  abbrev e : Entry
  e = (k.place, l)

  whole : (a b : ℕ) → numbers_of a b (front ++ e ∷ back) ≡ numbers_of a b front ++ (numbers_of a b (e ∷ []) ++ numbers_of a b back)
  whole a b = numbers-append a b front (e ∷ back) ∙ ap (λ ns. numbers_of a b front ++ ns) (numbers-append a b (e ∷ []) back)

  at_few : numbers_of s d (front ++ back) ≡ numbers_of s d front
  at_few = numbers-append s d front back ∙ ap (λ ns. numbers_of s d front ++ ns) none ∙ append-nil (numbers_of s d front)

  at_more : numbers_of s d (front ++ e ∷ back) ≡ numbers_of s d front ++ k.place ∷ []
  at_more = whole s d ∙ ap (λ ns. numbers_of s d front ++ (numbers_of s d (e ∷ []) ++ ns)) none ∙ ap (λ ns. numbers_of s d front ++ (ns ++ [])) (numbers-one s d e own)

  no_other : (a b : ℕ) → (s ≡ a → d ≡ b → ⊥) → numbers_of a b (front ++ e ∷ back) ≡ numbers_of a b (front ++ back)
  no_other a b other =
      let parts = and_parts (l.1.session.0 == s) (l.1.depth == d) own in
      let of_s : l.1.session.0 ≡ s = eqb-true l.1.session.0 s parts.0 in
      let of_d : l.1.depth ≡ d = eqb-true l.1.depth d parts.1 in
      whole a b ∙ ap (λ ns. numbers_of a b front ++ (ns ++ numbers_of a b back)) (numbers-other a b e (not-owned a b l (λ x y. other (sym of_s ∙ x) (sym of_d ∙ y)))) ∙ sym (numbers-append a b front back)

  pub one_fewer : length (numbers_of s d (front ++ e ∷ back)) ≡ length (numbers_of s d front) + 1
  one_fewer = ap length at_more ∙ length-append (numbers_of s d front) (k.place ∷ [])

  last_spot : IsLastOf tx (front ++ e ∷ back) k → k ≡ record { table = s; number = d; list = length (numbers_of s d front); place = k.place }
  last_spot last =
      let count : k.list + 1 ≡ length (numbers_of s d (front ++ e ∷ back)) = last.count in
      let list : k.list ≡ length (numbers_of s d front) = omega (arith, count, one_fewer) in
      λ i. record { table = last.table_is i; number = last.number_is i; list = list i; place = k.place }

  pub removes_owned : (old new : List Spot) → IsLastOf tx (front ++ e ∷ back) k → ((q : Spot) → has new q ≡ cond (is_spot k q) false (has old q)) → AreOwned old (front ++ e ∷ back) → AreOwned new (front ++ back)
  removes_owned old new last removed are =
      owned_less s d k.place (numbers_of s d front) (λ a b. numbers_of a b (front ++ back)) (λ a b. numbers_of a b (front ++ e ∷ back)) at_few at_more no_other old new
      (λ q. removed q ∙ ap (λ (p : Spot). cond (is_spot p q) false (has old q)) (last_spot last)) are

-- ---- the last lock, by the last spot

number-is : (o : Option ℕ) (p : ℕ) → is_number o p ≡ true → o ≡ Some p
number-is None p e = absurd (false≢true e)
number-is (Some m) p e = ap (λ n. Some n) (eqb-true m p e)

some-below : (ns : List ℕ) (i : ℕ) → i < length ns → (p : ℕ) × (slice_get ns i ≡ Some p)
some-below [] i low = absurd (omega (arith, low))
some-below (n ∷ ns) zero low = (n, refl)
some-below (n ∷ ns) (suc i) low = some-below ns i (omega (arith, low))

module _ (owners : List Spot) (entries : List Entry) (are : AreOwned owners entries) (few : length entries ≤ MAX_COUNT) (tx : TxId) where
  abbrev numbers : List ℕ
  numbers = numbers_of tx.session.0 tx.depth entries

  abbrev end : Spot
  end = record { table = tx.session.0; number = tx.depth; list = 4294967295; place = 0 }

  low : length numbers ≤ 4294967295
  low = omega (arith, few, numbers-le tx.session.0 tx.depth entries)

  under : (i p : ℕ) → i < length numbers → IsEarlier (record { table = tx.session.0; number = tx.depth; list = i; place = p }) end
  under i p less = record { list = omega (arith, less, low); place = λ e. absurd (omega (arith, less, low, e)) }

  there : (i p : ℕ) → slice_get numbers i ≡ Some p → has owners (record { table = tx.session.0; number = tx.depth; list = i; place = p }) ≡ true
  there i p e = are (record { table = tx.session.0; number = tx.depth; list = i; place = p }) ∙ ap (λ o. is_number o p) e ∙ eq-eqb p p refl

  last_is : (k : Spot) → IsLastBefore owners end k → IsLastOf tx entries k
  last_is k last =
      let here : is_number (slice_get (numbers_of k.table k.number entries) k.list) k.place ≡ true = sym (are k) ∙ last.here in
      let stands : slice_get numbers k.list ≡ Some k.place =
      ap (λ s. slice_get (numbers_of s tx.depth entries) k.list) (sym last.table) ∙ ap (λ d. slice_get (numbers_of k.table d entries) k.list) (sym last.number) ∙ number-is (slice_get (numbers_of k.table k.number entries) k.list) k.place here
      in
      let within : k.list < length numbers = slice_get_within numbers k.list k.place stands in
      record {
        table_is = last.table;
        number_is = last.number;
        count = ⊎_elim
            (λ (less : k.list + 1 < length numbers).
            let next = some-below numbers (k.list + 1) less in
            let none_later : IsNoLater (record { table = tx.session.0; number = tx.depth; list = k.list + 1; place = next.0 }) k = last.last (k.list + 1) next.0 (under (k.list + 1) next.0 less) (there (k.list + 1) next.0 next.1) in
            let up : k.list + 1 ≤ k.list = none_later.list in
            absurd (omega (arith, up)))
            (λ (more : length numbers ≤ k.list + 1). omega (arith, more, within)) (cases_lt (k.list + 1) (length numbers));
        here = stands;
      }

  none_is : IsNoneBefore owners end → numbers ≡ []
  none_is none = ⊎_elim
      (λ (some : 0 < length numbers).
      let first = some-below numbers 0 some in
      absurd (false≢true (sym (none 0 first.0 (under 0 first.0 some)) ∙ there 0 first.0 first.1)))
      (λ (no : length numbers ≤ 0). nil_from_length numbers (omega (arith, no))) (cases_lt 0 (length numbers))

pub last_found : (owners : List Spot) (tx : TxId) (from : Spot) (r : Option Spot) → from ≡ record { table = tx.session.0; number = tx.depth; list = 4294967295; place = 0 } → IfSome r (IsLastBefore owners from)
    → (entries : List Entry) → length entries ≤ MAX_COUNT → AreOwned owners entries → IfSome r (IsLastOf tx entries)
last_found owners tx from None is h entries few are = tt
last_found owners tx from (Some k) is h entries few are = last_is owners entries are few tx k (subst (λ (f : Spot). IsLastBefore owners f k) is h)

pub none_found : (owners : List Spot) (tx : TxId) (from : Spot) (r : Option Spot) → from ≡ record { table = tx.session.0; number = tx.depth; list = 4294967295; place = 0 } → IfNone r (IsNoneBefore owners from)
    → (entries : List Entry) → length entries ≤ MAX_COUNT → AreOwned owners entries → IfNone r (numbers_of tx.session.0 tx.depth entries ≡ [])
none_found owners tx from None is h entries few are = none_is owners entries are few tx (subst (λ (f : Spot). IsNoneBefore owners f) is h)
none_found owners tx from (Some k) is h entries few are = tt

pub last_fits : (owners : List Spot) (tx : TxId) (from : Spot) (r : Option Spot) → from ≡ record { table = tx.session.0; number = tx.depth; list = 4294967295; place = 0 } → IfSome r (IsLastBefore owners from)
    → IfSome r (λ k. k.list < 4294967295)
last_fits owners tx from None is h = tt
last_fits owners tx from (Some k) is h = ⊎_elim (λ (less : k.list < 4294967295). less)
    (λ (more : 4294967295 ≤ k.list).
    let at : k.list ≤ 4294967295 = last.before.list in
    let none : k.place < 0 = last.before.place (omega (arith, at, more)) in
    absurd (omega (arith, none)))
    (cases_lt k.list 4294967295)
  where
    last : IsLastBefore owners (record { table = tx.session.0; number = tx.depth; list = 4294967295; place = 0 }) k
    last = subst (λ (f : Spot). IsLastBefore owners f k) is h
