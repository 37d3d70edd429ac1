-- What holds of the live transactions at all times, so that a commit leaves no two rows of a table with one key.
use Rattle.std.specs.Prelude.{◌≡◌, ◌≢◌, ◌<◌, ◌≤◌, true, List, [], ◌∷◌, ◌++◌, length, find, Option, Some, None, option_map, ◌⊎◌}
use Rattle.ebr_base.specs.declared.numbers.RowNo.{RowNo}
use Rattle.ebr_base.specs.declared.row.Change.{Change}
use Rattle.ebr_base.specs.declared.row.RowId.{RowId}
use Rattle.ebr_base.specs.declared.row.TxId.{TxId}
use Rattle.ebr_base.specs.declared.value.Value.{Value}
use Rattle.ebr_versions.specs.declared.table.Table.{Table}
use Rattle.ebr_versions.specs.Data.{Latest, last_change}
use Rattle.ebr_versions.specs.Keys.{key_of, key_places, row_in, is_added}
use Rattle.ebr_versions.specs.Store.{OfAdded}
use Rattle.ebr_tx.specs.Data.{Transaction, is_named}
use Rattle.ebr_tx.specs.Reads.{over}
use Rattle.ebr_tx.specs.Limits.{max_changes, max_record, record_length}

-- one of the changes
abbrev pub Among : List Change → Change → Type 0
Among [] c = ⊥
Among (d ∷ ds) c = (d ≡ c) ⊎ Among ds c

-- the key that a change gives its row; none where it removes the row
abbrev pub key_by : List Table → Change → Option (List Value)
key_by tables c = option_map (key_of (key_places tables c.row.table)) c.values

-- a row's key by a transaction's changes, or else by its last committed values
abbrev pub key_with : List (List Change) → List Table → List Change → RowId → Option (List Value)
key_with commits tables changes row = option_map (key_of (key_places tables row.table)) (over (last_change row changes) (Latest commits row))

-- The key that the change gives its row is free: with the changes before it, no other row of the table has it.
abbrev pub IsFreeKey : List (List Change) → List Table → List Change → Change → Type 0
IsFreeKey commits tables before c =
    (key : List Value) (r : RowNo) → 0 < length key → key_by tables c ≡ Some key → r ≢ c.row.row → key_with commits tables before (row_in c.row.table r) ≢ Some key

-- each of the changes, made after some others, takes a free key
abbrev pub TakesFreeKeys : List (List Change) → List Table → List Change → List Change → Type 0
TakesFreeKeys commits tables before [] = Unit {0}
TakesFreeKeys commits tables before (c ∷ cs) = IsFreeKey commits tables before c × TakesFreeKeys commits tables (before ++ c ∷ []) cs

-- two changes in one table don't give one key
abbrev pub GiveOtherKeys : List Table → Change → Change → Type 0
GiveOtherKeys tables c d = c.row.table ≡ d.row.table → (key : List Value) → 0 < length key → key_by tables c ≡ Some key → key_by tables d ≢ Some key

abbrev pub ShareNoKey : List Table → List Change → List Change → Type 0
ShareNoKey tables xs ys = (c d : Change) → Among xs c → Among ys d → GiveOtherKeys tables c d

-- What holds of the live transactions: each takes free keys, two share none, all change tables that were added, none has
-- too many changes or too long a record, and one that hasn't begun has no change.
pub record IsSound (commits : List (List Change)) (tables : List Table) (live : List Transaction) : Type 0 where
  pub free : (t : TxId) (x : Transaction) → find (is_named t) live ≡ Some x → TakesFreeKeys commits tables [] x.changes
  pub apart : (t u : TxId) (x y : Transaction) → t ≢ u → find (is_named t) live ≡ Some x → find (is_named u) live ≡ Some y → ShareNoKey tables x.changes y.changes
  pub added : (t : TxId) (x : Transaction) → find (is_named t) live ≡ Some x → OfAdded tables x.changes
  pub few : (t : TxId) (x : Transaction) → find (is_named t) live ≡ Some x → length x.changes ≤ max_changes
  pub short : (t : TxId) (x : Transaction) → find (is_named t) live ≡ Some x → record_length x.changes ≤ max_record
  pub begun : (t : TxId) (x : Transaction) → find (is_named t) live ≡ Some x → x.begun ≡ None → x.changes ≡ []

-- the transaction may make one more change
pub record MayAdd (commits : List (List Change)) (tables : List Table) (live : List Transaction) (t : TxId) (x : Transaction) (c : Change) : Type 0 where
  pub free : IsFreeKey commits tables x.changes c
  pub apart : (u : TxId) (y : Transaction) → t ≢ u → find (is_named u) live ≡ Some y → (e : Change) → Among y.changes e → GiveOtherKeys tables c e
  pub added : is_added tables c.row.table ≡ true
  pub few : length x.changes < max_changes
  pub short : record_length (x.changes ++ c ∷ []) ≤ max_record
  pub begun : x.begun ≢ None
