-- Live transactions with what their changes are filed under.
use Rattle.std.specs.Prelude.{ℕ, ◌≡◌, ◌<◌, ◌≤◌, Bool, true, false, List, Option, Some, None, map, take, slice_get, option_map, sum_by, All}
use Rattle.ebr_base.specs.declared.numbers.TableId.{TableId}
use Rattle.ebr_base.specs.declared.row.Change.{Change}
use Rattle.ebr_base.specs.declared.row.RowId.{RowId}
use Rattle.ebr_base.specs.declared.value.Value.{Value}
use Rattle.ebr_versions.specs.declared.index.Entry.{Entry}
use Rattle.ebr_versions.specs.declared.table.Table.{Table}
use Rattle.ebr_versions.specs.Data.{last_change, values_by}
use Rattle.ebr_versions.specs.Keys.{key_of}
use Rattle.ebr_versions.specs.inside.Index.{entry_of}
use Rattle.ebr_versions.specs.inside.Print.{key_number}
use Rattle.ebr_versions.specs.Store.{OfAdded}
use Rattle.ebr_changes.specs.Filed.{IsFiledAt}
use Rattle.ebr_base.specs.declared.row.TxId.{TxId}
use Rattle.ebr_tx.specs.Data.{Transaction, is_named}
use Rattle.ebr_tx.specs.Limits.{change_length, record_length, max_record}
use Rattle.ebr_tx.specs.Conflicts.{gives_key}
use Rattle.ebr_tx.specs.inside.Sound.{IsSound}

-- a live transaction, and what each of its changes is filed under
pub record FiledTransaction : Type 0 where
  pub transaction : Transaction
  pub entries : List Entry

abbrev pub transactions_of : List FiledTransaction → List Transaction
transactions_of live = map (λ (x : FiledTransaction). x.transaction) live

abbrev pub is_live : TxId → FiledTransaction → Bool
is_live t x = is_named t x.transaction

-- each change is of a table that was added, and filed under its row and its key
pub record IsFiledBy (tables : List Table) (x : FiledTransaction) : Type 0 where
  pub entries : x.entries ≡ map (entry_of tables) x.transaction.changes
  pub added : OfAdded tables x.transaction.changes

abbrev pub AreFiledBy : List Table → List FiledTransaction → Type 0
AreFiledBy tables live = All (IsFiledBy tables) live

-- what holds of the fields of a `Transactions`
pub record IsKept (commits : List (List Change)) (tables : List Table) (live : List FiledTransaction) : Type 0 where
  pub sound : IsSound commits tables (transactions_of live)
  pub filed : AreFiledBy tables live

-- whether an element stands at a place and passes
abbrev pub passes : {X : Type 0} → (X → Bool) → Option X → Bool
passes p None = false
passes p (Some x) = p x

abbrev pub passes_at : {X : Type 0} → (X → Bool) → List X → ℕ → Bool
passes_at p xs n = passes p (slice_get xs n)

-- each change that gives the key is filed under its number
abbrev pub FindsKey : TableId → List ℕ → List Value → List Change → List Entry → Type 0
FindsKey t places key changes entries = (n : ℕ) → passes_at (gives_key t places key) changes n ≡ true → IsFiledAt entries t (key_number key) n

abbrev pub FindsKeyBy : TableId → List ℕ → List Value → FiledTransaction → Type 0
FindsKeyBy t places key x = FindsKey t places key x.transaction.changes x.entries

-- Each change that gives the key took a free one: no other row had it by the changes before.
abbrev pub TakesFree : TableId → List ℕ → List Value → List Change → Type 0
TakesFree t places key changes =
    (n : ℕ) (c : Change) → slice_get changes n ≡ Some c → gives_key t places key c ≡ true
    → (row : RowId) → (row ≡ c.row → ⊥) → row.table ≡ t → option_map (key_of places) (values_by (last_change row (take n changes))) ≡ Some key → ⊥

-- the change at the place gives the key, and none behind it does
pub record IsLastGiver (t : TableId) (places : List ℕ) (key : List Value) (changes : List Change) (p : ℕ) : Type 0 where
  pub here : passes_at (gives_key t places key) changes p ≡ true
  pub last : (q : ℕ) → p < q → passes_at (gives_key t places key) changes q ≡ false

abbrev pub NoneGives : TableId → List ℕ → List Value → List Change → Type 0
NoneGives t places key changes = (q : ℕ) → passes_at (gives_key t places key) changes q ≡ false

-- the bytes of the changes are counted, and they aren't too many
pub record IsCounted (length : ℕ) (changes : List Change) : Type 0 where
  pub sum : length ≡ sum_by change_length changes
  pub short : record_length changes ≤ max_record
