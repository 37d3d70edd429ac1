-- Which rows and keys a transaction may touch. Nobody waits: a row that another one holds is refused at once (own), as
-- with NOWAIT in Oracle Database SQL Language Reference 19c, SELECT; a row that was changed since the beginning can't be
-- serialized (Oracle Database Concepts 19c, Serializable Isolation Level).
use Rattle.std.specs.Prelude.{ℕ, Bool, true, false, not, ◌&&◌, ◌||◌, ◌==◌, if◌then◌else◌, List, [], ◌∷◌, Option, Some, None, is_some}
use Rattle.std.specs.List.{list_any}
use Rattle.std.specs.Str.{bytes_eq}
use Rattle.std.specs.Ordering.{int_eq}
use Rattle.std.specs.Cmp.Lexicographic.{pointwise}
use Rattle.ebr_base.specs.declared.code.Code.{Code}
use Rattle.ebr_base.specs.declared.code.Code.TheVariants.{Ora}
use Rattle.ebr_base.specs.declared.numbers.RowNo.{RowNo}
use Rattle.ebr_base.specs.declared.numbers.TableId.{TableId}
use Rattle.ebr_base.specs.declared.row.Change.{Change}
use Rattle.ebr_base.specs.declared.row.RowId.{RowId}
use Rattle.ebr_base.specs.declared.row.TxId.{TxId}
use Rattle.ebr_base.specs.declared.value.Value.{Value}
use Rattle.ebr_base.specs.declared.value.Value.TheVariants.{Null, Num, Text, Bool as Boolean}
use Rattle.ebr_versions.specs.Data.{Latest, last_change, changes_row, changed_since, is_in}
use Rattle.ebr_versions.specs.Keys.{key_of, key_places}
use Rattle.ebr_locks.specs.Locks.{holder_of, same_tx, is_held_in}
use Rattle.ebr_tx.specs.Data.{Transaction, Data, own, some_other}
use Rattle.ebr_tx.specs.Reads.{over, Sees, numbers_by, row_at}

-- the code of the first cause that holds
abbrev pub first_refusal : List (Bool × Code) → Option Code
first_refusal [] = None
first_refusal (cause ∷ causes) = if cause.0 then Some cause.1 else first_refusal causes

-- some transaction, and not this one
abbrev pub is_other : TxId → Option TxId → Bool
is_other t None = false
is_other t (Some by) = not (same_tx by t)

abbrev pub changes_row_by : RowId → Transaction → Bool
changes_row_by row x = changes_row row x.changes

-- Another live transaction has the row among its locks or its changes.
abbrev pub HeldBy : Data → RowId → TxId → Bool
HeldBy d row t = is_other t (holder_of row d.locks) || some_other t (changes_row_by row) d.live

-- a commit after that beginning changes the row
abbrev pub is_late : List (List Change) → Option ℕ → RowId → Bool
is_late commits None row = false
is_late commits (Some n) row = is_some (changed_since commits row n)

-- A commit after the transaction's beginning changes the row.
abbrev pub Late : Data → TxId → RowId → Bool
Late d t row = is_late d.commits (own d t).begun row

-- What refuses to touch a row, in order: ORA-00054 where it is held, ORA-08177 where it is late.
abbrev pub touch_refusal : Data → TxId → RowId → Option Code
touch_refusal d t row = first_refusal ((HeldBy d row t, Ora 54) ∷ (Late d t row, Ora 8177) ∷ [])

abbrev pub changes_in_table : TableId → Transaction → Bool
changes_in_table table x = list_any (is_in table) x.changes

-- Another live transaction has changes or locks in the table.
abbrev pub TableHeld : Data → TableId → TxId → Bool
TableHeld d table but = is_held_in table but d.locks || some_other but (changes_in_table table) d.live

-- values are equal as data, NULL to NULL
abbrev pub same_value : Value → Value → Bool
same_value Null Null = true
same_value (Num m) (Num n) = int_eq m n
same_value (Text a) (Text b) = bytes_eq a b
same_value (Boolean a) (Boolean b) = if a then b else not b
same_value a b = false

abbrev pub same_values : List Value → List Value → Bool
same_values = pointwise same_value

-- the row is there, and has that key at those places
abbrev pub has_key : List ℕ → List Value → Option (List Value) → Bool
has_key places key None = false
has_key places key (Some values) = same_values (key_of places values) key

-- the change gives a row of the table that key
abbrev pub gives_key : TableId → List ℕ → List Value → Change → Bool
gives_key table places key c = is_in table c && has_key places key c.values

abbrev pub gives_key_by : TableId → List ℕ → List Value → Transaction → Bool
gives_key_by table places key x = list_any (gives_key table places key) x.changes

-- The row of that number is another one than this. A new row is none of those that are there.
abbrev pub is_another : Option RowNo → ℕ → Bool
is_another None n = true
is_another (Some this) n = not (n == this.0)

-- another one of these rows of a table than this one has the key, by these values
abbrev pub another_has : TableId → Option RowNo → List ℕ → List Value → (RowId → Option (List Value)) → List ℕ → Bool
another_has table this places key values numbers =
    list_any (λ n. is_another this n && has_key places key (values (row_at table n))) numbers

-- a row's value is the transaction's own if it changed the row, and the last committed one otherwise
abbrev pub own_or_last : Data → TxId → RowId → Option (List Value)
own_or_last d t row = over (last_change row (own d t).changes) (Latest d.commits row)

-- A change of another live transaction gives a row of the table that key. It counts even if a later change of that
-- transaction takes the key away again, since a savepoint can bring it back.
abbrev pub KeyInUse : Data → TxId → TableId → List Value → Bool
KeyInUse d t table key = some_other t (gives_key_by table (key_places d.tables table) key) d.live

-- Another row than this one has that key.
abbrev pub KeyTaken : Data → TxId → TableId → Option RowNo → List Value → Bool
KeyTaken d t table this key = another_has table this (key_places d.tables table) key (own_or_last d t) (numbers_by d.commits (own d t) table)

-- The transaction sees another row than this one with that key.
abbrev pub KeySeen : Data → TxId → TableId → Option RowNo → List Value → Bool
KeySeen d t table this key = another_has table this (key_places d.tables table) key (Sees d t) (numbers_by d.commits (own d t) table)

-- The test of a key for a row, or for a new one, in order: ORA-00054, ORA-00001, ORA-08177.
abbrev pub KeyTest : Data → TxId → TableId → Option RowNo → List Value → Option Code
KeyTest d t table this key =
    first_refusal ((KeyInUse d t table key, Ora 54) ∷ (KeyTaken d t table this key, Ora 1) ∷ (KeySeen d t table this key, Ora 8177) ∷ [])
