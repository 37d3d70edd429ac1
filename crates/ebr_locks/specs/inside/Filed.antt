-- The locks by their sequence numbers, by their rows, by their tables and by their transactions.
use Rattle.std.specs.Prelude.{ℕ, ◌≡◌, ◌<◌, ◌≤◌, ◌-◌, ◌+◌, ◌*◌, ◌^◌, ◌&&◌, ◌==◌, Bool, true, false, not, cond, List, [], ◌∷◌, ◌++◌, length, take, slice_get, Option, Some, None}
use Rattle.std.specs.List.{list_any}
use Rattle.std.specs.List.Sorted.{IsStrictlySortedBy}
use Rattle.std.specs.Ordering.{nat_cmp}
use Rattle.std.specs.Map.{keys_of, values_of}
use Rattle.ebr_base.specs.declared.numbers.TheConstants.{MAX_COUNT}
use Rattle.ebr_base.specs.declared.numbers.TableId.{TableId}
use Rattle.ebr_base.specs.declared.row.RowId.{RowId}
use Rattle.ebr_base.specs.declared.row.TxId.{TxId}
use Rattle.ebr_spots.specs.declared.spot.Spot.{Spot}
use Rattle.ebr_spots.specs.Spots.{has, is_spot}
use Rattle.ebr_locks.specs.Locks.{Lock, AreLocks, is_locked, is_of, same_row}

-- a lock and its sequence number
abbrev pub Entry : Type 0
Entry = ℕ × Lock

-- a lock under its row
abbrev pub row_spot : Lock → Spot
row_spot l = record { table = l.0.table.0; number = l.0.row.0; list = l.1.session.0; place = l.1.depth }

-- a transaction as one number
abbrev pub tx_number : TxId → ℕ
tx_number tx = tx.session.0 * 2 ^ 32 + tx.depth

-- a lock under its table and transaction
abbrev pub table_spot : Lock → Spot
table_spot l = record { table = l.0.table.0; number = tx_number l.1; list = 0; place = l.0.row.0 }

-- the spots are those of the locks
abbrev pub AreSpotsOf : (Lock → Spot) → List Spot → List Lock → Type 0
AreSpotsOf spot_of spots locks = (q : Spot) → has spots q ≡ list_any (λ l. is_spot (spot_of l) q) locks

abbrev pub is_owned : ℕ → ℕ → Lock → Bool
is_owned session depth l = l.1.session.0 == session && l.1.depth == depth

-- the sequence numbers of a transaction's locks, in order
abbrev pub numbers_of : ℕ → ℕ → List Entry → List ℕ
numbers_of session depth [] = []
numbers_of session depth (e ∷ es) = cond (is_owned session depth e.1) (e.0 ∷ numbers_of session depth es) (numbers_of session depth es)

abbrev pub is_number : Option ℕ → ℕ → Bool
is_number None n = false
is_number (Some m) n = m == n

-- a transaction's n-th lock stands at the list n, and at its sequence number there
abbrev pub AreOwned : List Spot → List Entry → Type 0
AreOwned spots entries = (q : Spot) → has spots q ≡ is_number (slice_get (numbers_of q.table q.number entries) q.list) q.place

-- a transaction's last lock
pub record IsLastOf (tx : TxId) (entries : List Entry) (k : Spot) : Type 0 where
  pub table_is : k.table ≡ tx.session.0
  pub number_is : k.number ≡ tx.depth
  pub count : k.list + 1 ≡ length (numbers_of tx.session.0 tx.depth entries)
  pub here : slice_get (numbers_of tx.session.0 tx.depth entries) k.list ≡ Some k.place

-- where the next lock of a transaction stands
abbrev pub next_spot : TxId → ℕ → List Entry → Spot
next_spot tx number entries = record { table = tx.session.0; number = tx.depth; list = length (numbers_of tx.session.0 tx.depth entries); place = number }

-- the numbers of autonomous levels are those of the code
abbrev pub Fit : List Lock → Type 0
Fit [] = Unit {0}
Fit (l ∷ locks) = (l.1.depth ≤ 4294967295) × Fit locks

-- what holds of the fields of a `LockList`
pub record IsFiled (entries : List Entry) (rows tables owners : List Spot) : Type 0 where
  pub rising : IsStrictlySortedBy nat_cmp (keys_of entries)
  pub locks : AreLocks (values_of entries)
  pub fit : Fit (values_of entries)
  pub rows_are : AreSpotsOf row_spot rows (values_of entries)
  pub tables_are : AreSpotsOf table_spot tables (values_of entries)
  pub owners_are : AreOwned owners entries

-- the locks, with the one that has a place
abbrev pub with_place : List Lock → Option Lock → List Lock
with_place taken None = taken
with_place taken (Some l) = taken ++ l ∷ []

-- the locks without the one that has a place, which is the last
abbrev pub taken_of : List Lock → Option Lock → List Lock
taken_of all None = all
taken_of all (Some l) = take (length all - 1) all

-- what holds of the fields of a `Locks`
pub record IsPlaced (all : List Lock) (place : Option Lock) : Type 0 where
  pub split : all ≡ with_place (taken_of all place) place
  pub locks : AreLocks all

-- a transaction but this one holds another row of the table
abbrev pub is_held_but : TableId → TxId → RowId → List Lock → Bool
is_held_but table but row locks = list_any (λ (l : Lock). l.0.table.0 == table.0 && not (is_of but l) && not (same_row l.0 row)) locks

-- one more lock; none, where the lock's row was free; and one fewer
module _ (l : Lock) where
  abbrev pub AddsSpot : (Lock → Spot) → List Spot → List Spot → Type 0
  AddsSpot spot_of old new = (locks : List Lock) → AreSpotsOf spot_of old locks → AreSpotsOf spot_of new (locks ++ l ∷ [])

  abbrev pub LeavesSpots : (Lock → Spot) → List Spot → List Spot → Type 0
  LeavesSpots spot_of old new = (locks : List Lock) → is_locked l.0 locks ≡ false → AreSpotsOf spot_of old locks → AreSpotsOf spot_of new locks

  abbrev pub RemovesSpot : (Lock → Spot) → List Spot → List Spot → Type 0
  RemovesSpot spot_of old new = (front back : List Lock) → is_locked l.0 (front ++ back) ≡ false → AreSpotsOf spot_of old (front ++ l ∷ back) → AreSpotsOf spot_of new (front ++ back)

abbrev pub AddsOwned : Entry → List Spot → List Spot → Type 0
AddsOwned e old new = (entries : List Entry) → length entries ≤ MAX_COUNT → AreOwned old entries → AreOwned new (entries ++ e ∷ [])

abbrev pub LeavesOwned : List Spot → List Spot → Type 0
LeavesOwned old new = (entries : List Entry) → length entries ≤ MAX_COUNT → AreOwned old entries → AreOwned new entries

-- some lock is filed under the table and a transaction of a lower number, or none is
abbrev pub SomeBelow : List Spot → ℕ → ℕ → Type 0
SomeBelow tables table number = (k : Spot) × (has tables k ≡ true) × (k.table ≡ table) × (k.number < number)

abbrev pub NoneBelow : List Spot → ℕ → ℕ → Type 0
NoneBelow tables table number = (k : Spot) → k.table ≡ table → k.number < number → has tables k ≡ false
