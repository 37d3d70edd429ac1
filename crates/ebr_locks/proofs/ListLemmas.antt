-- What holds of all fields of the list of locks, with one lock more and one fewer.
use Rattle.std.proofs.Common.{◌≡◌, ℕ, ◌+◌, ◌-◌, ◌<◌, ◌≤◌, false, cond, List, [], ◌∷◌, ◌++◌, Some, length, length-append, sym, ap, ◌∙◌, subst, arith}
use Rattle.std.specs.List.Sorted.{IsStrictlySortedBy}
use Rattle.std.specs.Ordering.{nat_cmp}
use Rattle.std.specs.Map.{keys_of, values_of, lookup, remove_entry}
use Rattle.std.specs.BTreeMap.{is_at}
use Rattle.std.proofs.lemmas.Map.Entries.{length-values_of}
use Rattle.ebr_base.specs.declared.numbers.TheConstants.{MAX_COUNT}
use Rattle.ebr_base.specs.declared.row.TxId.{TxId}
use Rattle.ebr_spots.specs.declared.spot.Spot.{Spot}
use Rattle.ebr_spots.specs.Spots.{has, is_spot}
use Rattle.ebr_locks.specs.Locks.{Lock, is_locked, locks_of, released, AreLocks, IsLockedOnce}
use Rattle.ebr_locks.specs.inside.Filed.{Entry, row_spot, table_spot, numbers_of, AreOwned, AreSpotsOf, IsLastOf, IsFiled, Fit, AddsSpot, AddsOwned, LeavesSpots, LeavesOwned}
use Rattle.ebr_locks.proofs.EntryLemmas.{found, removed, values-split, values-joined}
use Rattle.ebr_locks.proofs.OwnedLemmas.{Cut, last-cut, numbers-length, one_fewer, removes_owned}
use Rattle.ebr_locks.proofs.FiledLemmas.{removes_spot, row_spots, table_spots, fit_push, fit_less, once_less, once_free}
use Rattle.ebr_locks.proofs.Released.{released-split, released-freed, released-all}
use Rattle.ebr_locks.proofs.Taken.{once-push}

pub few_entries : (es : List Entry) → length (values_of es) ≤ MAX_COUNT → length es ≤ MAX_COUNT
few_entries es few = omega (arith, few, length-values_of es)

-- one more lock, and none
pub filed_more : (number : ℕ) (lock : Lock) (es new : List Entry) (rows tables owners rows' tables' owners' : List Spot) → IsFiled es rows tables owners → new ≡ es ++ (number, lock) ∷ [] → IsStrictlySortedBy nat_cmp (keys_of new)
    → is_locked lock.0 (values_of es) ≡ false → length (values_of es) < MAX_COUNT → lock.1.depth ≤ 4294967295
    → AddsSpot lock row_spot rows rows' → AddsSpot lock table_spot tables tables' → AddsOwned (number, lock) owners owners' → IsFiled new rows' tables' owners'
filed_more number lock es new rows tables owners rows' tables' owners' filed is rising free few low adds_row adds_table adds_owner =
    let values : values_of new ≡ values_of es ++ lock ∷ [] = ap values_of is ∙ values-split es number lock [] in
    record {
      rising = rising;
      locks = subst AreLocks (sym values) (record {
        once = once-push lock.0 lock.1 (values_of es) free filed.locks.once;
        count = omega (arith, length-append (values_of es) (lock ∷ []), few);
      });
      fit = subst Fit (sym values) (fit_push (values_of es) lock filed.fit low);
      rows_are = subst (AreSpotsOf row_spot rows') (sym values) (adds_row (values_of es) filed.rows_are);
      tables_are = subst (AreSpotsOf table_spot tables') (sym values) (adds_table (values_of es) filed.tables_are);
      owners_are = subst (AreOwned owners') (sym is) (adds_owner es (few_entries es filed.locks.count) filed.owners_are);
    }

pub filed_same : (lock : Lock) (es new : List Entry) (rows tables owners rows' tables' owners' : List Spot) → IsFiled es rows tables owners → new ≡ es → is_locked lock.0 (values_of es) ≡ false
    → LeavesSpots lock row_spot rows rows' → LeavesSpots lock table_spot tables tables' → LeavesOwned owners owners' → IsFiled new rows' tables' owners'
filed_same lock es new rows tables owners rows' tables' owners' filed is free leaves_row leaves_table leaves_owner = subst (λ (es : List Entry). IsFiled es rows' tables' owners') (sym is) (record {
  rising = filed.rising;
  locks = filed.locks;
  fit = filed.fit;
  rows_are = leaves_row (values_of es) free filed.rows_are;
  tables_are = leaves_table (values_of es) free filed.tables_are;
  owners_are = leaves_owner es (few_entries es filed.locks.count) filed.owners_are;
})

-- a transaction without locks
pub stays_none : (tx : TxId) (es : List Entry) → numbers_of tx.session.0 tx.depth es ≡ [] → values_of es ≡ released tx (length (locks_of tx (values_of es)) - 1) (values_of es)
stays_none tx es none =
    let count : length (locks_of tx (values_of es)) ≡ 0 = sym (numbers-length tx es) ∙ ap length none in
    sym (released-all tx (length (locks_of tx (values_of es)) - 1) (values_of es) (omega (arith, count)))

-- a transaction's last lock is gone
module _ (tx : TxId) (es : List Entry) (k : Spot) (rising : IsStrictlySortedBy nat_cmp (keys_of es)) (last : IsLastOf tx es k) where
  abbrev cut : Cut tx.session.0 tx.depth k.place es
  cut = last-cut tx.session.0 tx.depth es k.list k.place last.here last.count

  abbrev front : List Entry
  front = cut.0

  abbrev l : Lock
  l = cut.1

  abbrev back : List Entry
  back = cut.2

  rises : IsStrictlySortedBy nat_cmp (keys_of (front ++ (k.place, l) ∷ back))
  rises = subst (λ (es : List Entry). IsStrictlySortedBy nat_cmp (keys_of es)) cut.3.split rising

  pub there : lookup (is_at (nat_cmp k.place)) es ≡ Some l
  there = ap (lookup (is_at (nat_cmp k.place))) cut.3.split ∙ found front k.place l back rises

  left : remove_entry (is_at (nat_cmp k.place)) es ≡ front ++ back
  left = ap (remove_entry (is_at (nat_cmp k.place))) cut.3.split ∙ removed front k.place l back rises

  values : values_of es ≡ values_of front ++ l ∷ values_of back
  values = ap values_of cut.3.split ∙ values-split front k.place l back

  pub last_released : (new : List Entry) → new ≡ remove_entry (is_at (nat_cmp k.place)) es → values_of new ≡ released tx (length (locks_of tx (values_of es)) - 1) (values_of es)
  last_released new is =
      let whole : length (locks_of tx (values_of es)) ≡ length (locks_of tx (values_of front)) + 1 =
      sym (numbers-length tx es) ∙ ap (λ (ls : List Entry). length (numbers_of tx.session.0 tx.depth ls)) cut.3.split ∙ one_fewer tx k front l back cut.3.own cut.3.none ∙ ap (λ n. n + 1) (numbers-length tx front)
      in
      let mark : length (locks_of tx (values_of front)) ≡ length (locks_of tx (values_of es)) - 1 = omega (arith, whole) in
      let none : length (locks_of tx (values_of back)) ≡ 0 = sym (numbers-length tx back) ∙ ap length cut.3.none in
      ap values_of (is ∙ left) ∙ values-joined front back
      ∙ ap (λ ls. values_of front ++ ls) (sym (released-freed tx l (values_of back) cut.3.own ∙ released-all tx 0 (values_of back) (omega (arith, none))))
      ∙ sym (released-split tx (length (locks_of tx (values_of es)) - 1) (values_of front) (l ∷ values_of back) mark)
      ∙ ap (released tx (length (locks_of tx (values_of es)) - 1)) (sym values)

  pub filed_less : (rows tables owners rows' tables' owners' : List Spot) (new : List Entry) (lock : Lock) (rs ts : Spot) → IsFiled es rows tables owners → new ≡ remove_entry (is_at (nat_cmp k.place)) es → IsStrictlySortedBy nat_cmp (keys_of new)
      → Some lock ≡ lookup (is_at (nat_cmp k.place)) es → rs ≡ row_spot lock → ((q : Spot) → has rows' q ≡ cond (is_spot rs q) false (has rows q)) → ts ≡ table_spot lock → ((q : Spot) → has tables' q ≡ cond (is_spot ts q) false (has tables q))
      → ((q : Spot) → has owners' q ≡ cond (is_spot k q) false (has owners q)) → IsFiled new rows' tables' owners'
  filed_less rows tables owners rows' tables' owners' new lock rs ts filed is rises_new at row_is row_gone table_is table_gone owner_gone =
      let lock_is : lock ≡ l = some-lock lock l (at ∙ there) in
      let joined : values_of new ≡ values_of front ++ values_of back = ap values_of (is ∙ left) ∙ values-joined front back in
      let once : IsLockedOnce (values_of front ++ l ∷ values_of back) = subst IsLockedOnce values filed.locks.once in
      let free : is_locked l.0 (values_of front ++ values_of back) ≡ false = once_free (values_of front) (values_of back) l once in
      record {
        rising = rises_new;
        locks = subst AreLocks (sym joined) (record { once = once_less (values_of front) (values_of back) l once; count = shorter filed.locks.count });
        fit = subst Fit (sym joined) (fit_less (values_of front) (values_of back) l (subst Fit values filed.fit));
        rows_are = subst (AreSpotsOf row_spot rows') (sym joined)
            (removes_spot l row_spot (row_spots l) rs (row_is ∙ ap row_spot lock_is) rows rows' row_gone (values_of front) (values_of back) free (subst (AreSpotsOf row_spot rows) values filed.rows_are));
        tables_are = subst (AreSpotsOf table_spot tables') (sym joined)
            (removes_spot l table_spot (table_spots l) ts (table_is ∙ ap table_spot lock_is) tables tables' table_gone (values_of front) (values_of back) free (subst (AreSpotsOf table_spot tables) values filed.tables_are));
        owners_are = subst (AreOwned owners') (sym (is ∙ left))
            (removes_owned tx k front l back cut.3.own cut.3.none owners owners' (subst (λ (es : List Entry). IsLastOf tx es k) cut.3.split last) owner_gone (subst (AreOwned owners) cut.3.split filed.owners_are));
      }
    where
      some-lock : (a b : Lock) → Some a ≡ Some b → a ≡ b
      some-lock a b e = cc

      shorter : length (values_of es) ≤ MAX_COUNT → length (values_of front ++ values_of back) ≤ MAX_COUNT
      shorter few =
          let a : length (values_of es) ≡ length (values_of front) + length (l ∷ values_of back) = ap length values ∙ length-append (values_of front) (l ∷ values_of back) in
          let b : length (values_of front ++ values_of back) ≡ length (values_of front) + length (values_of back) = length-append (values_of front) (values_of back) in
          omega (arith, few, a, b)
