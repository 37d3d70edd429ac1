-- Which transaction holds which row (Oracle Database SQL Language Reference 19c, Automatic Locks in DML Operations: a
-- row lock is held until its transaction ends or goes back to a savepoint before it).
use Rattle.std.specs.Prelude.{ℕ, zero, suc, Bool, not, ◌&&◌, ◌==◌, ◌<◌, ◌≤◌, ◌≡◌, false, if◌then◌else◌, List, [], ◌∷◌, ◌++◌, length, filter, find, Option, Some, None, option_map, Result, Ok, Err}
use Rattle.std.specs.List.{list_any}
use Rattle.ebr_base.specs.declared.numbers.TheConstants.{MAX_COUNT}
use Rattle.ebr_base.specs.declared.numbers.TableId.{TableId}
use Rattle.ebr_base.specs.declared.row.RowId.{RowId}
use Rattle.ebr_base.specs.declared.row.TxId.{TxId}
use Rattle.ebr_locks.specs.declared.locks.Held.{Held}

-- a row, and the transaction that holds it
abbrev pub Lock : Type 0
Lock = RowId × TxId

-- The room that a reserve made: a place for one lock, and for so many locks at all.
pub record Room : Type 0 where
  pub place : Option Lock
  pub free : ℕ

-- the locks in the order in which they were taken, and the room for one more
pub record LockTable : Type 0 where
  pub taken : List Lock
  pub room : Room

abbrev pub same_row : RowId → RowId → Bool
same_row a b = a.table.0 == b.table.0 && a.row.0 == b.row.0

abbrev pub same_tx : TxId → TxId → Bool
same_tx a b = a.session.0 == b.session.0 && a.depth == b.depth

-- the transaction that holds a row
abbrev pub holder_of : RowId → List Lock → Option TxId
holder_of row taken = option_map (λ l. l.1) (find (λ l. same_row l.0 row) taken)

-- Where nobody holds the row, a place is there for a lock of this row by this transaction. A reserve gives it to its own row
-- and transaction, and a take that adds the lock uses it up. That it lasts over anything else isn't said: a later reserve,
-- take or release may leave less room than there was. This is the one word that speaks of room.
unfoldable pub HasRoom : LockTable → RowId → TxId → Type 0
HasRoom s row tx = holder_of row s.taken ≡ None → (s.room.place ≡ Some (row, tx)) × (0 < s.room.free) × (length s.taken < MAX_COUNT)

abbrev pub is_of : TxId → Lock → Bool
is_of tx l = same_tx l.1 tx

-- a transaction but this one holds a row of the table
abbrev pub is_held_in : TableId → TxId → List Lock → Bool
is_held_in table but taken = list_any (λ (l : Lock). l.0.table.0 == table.0 && not (is_of but l)) taken

-- the locks of one transaction, in the order in which it took them
abbrev pub locks_of : TxId → List Lock → List Lock
locks_of tx taken = filter (is_of tx) taken

-- the locks of all other transactions
abbrev pub others_than : TxId → List Lock → List Lock
others_than tx taken = filter (λ l. not (is_of tx l)) taken

-- what a take answers, by the row's holder
abbrev pub take_answer : Option TxId → TxId → Result (Unit {0}) Held
take_answer None tx = Ok tt
take_answer (Some by) tx = if same_tx by tx then Ok tt else Err (record { by = by })

-- the locks after a take, by the row's holder: one more where nobody holds it
abbrev pub after_take : Option TxId → RowId → TxId → List Lock → List Lock
after_take None row tx taken = taken ++ (row, tx) ∷ []
after_take (Some by) row tx taken = taken

-- the locks without those that a transaction took after its first `mark`
abbrev pub released : TxId → ℕ → List Lock → List Lock
released tx mark [] = []
released tx zero (l ∷ taken) = if is_of tx l then released tx zero taken else l ∷ released tx zero taken
released tx (suc mark) (l ∷ taken) = if is_of tx l then l ∷ released tx mark taken else l ∷ released tx (suc mark) taken

-- whether some lock is of the row
abbrev pub is_locked : RowId → List Lock → Bool
is_locked row taken = list_any (λ l. same_row l.0 row) taken

-- no row is locked twice
abbrev pub IsLockedOnce : List Lock → Type 0
IsLockedOnce [] = Unit {0}
IsLockedOnce (l ∷ taken) = (is_locked l.0 taken ≡ false) × IsLockedOnce taken

-- What holds of the locks at all times: no row is there twice, and they can be counted.
pub record AreLocks (taken : List Lock) : Type 0 where
  pub once : IsLockedOnce taken
  pub count : length taken ≤ MAX_COUNT
