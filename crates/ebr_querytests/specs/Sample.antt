-- Three committed rows of a table, and what two sessions have of them; and the columns of a table before and after one was added.
use Rattle.std.specs.Prelude.{ℕ, pos, true, codes, List, [], ◌∷◌, Some}
use Rattle.ebr_base.specs.declared.row.Change.{Change}
use Rattle.ebr_base.specs.declared.row.RowId.{RowId}
use Rattle.ebr_base.specs.declared.row.TxId.{TxId}
use Rattle.ebr_base.specs.declared.table.Column.{Column}
use Rattle.ebr_base.specs.declared.table.TableDef.{TableDef}
use Rattle.ebr_base.specs.declared.value.ColType.TheVariants as column
use Rattle.ebr_base.specs.declared.value.Value.{Value}
use Rattle.ebr_base.specs.declared.value.Value.TheVariants as value
use Rattle.ebr_locks.specs.Locks.{Lock}
use Rattle.ebr_tx.specs.Calls.{lock_count}
use Rattle.ebr_tx.specs.Data.{Data}
use Rattle.ebr_query.specs.Queries.{Answered, with_locks}

abbrev pub own_of : ℕ → TxId
own_of session = record { session = record { 0 = session }; depth = 0 }

abbrev pub row : ℕ → RowId
row n = record { table = record { 0 = 1 }; row = record { 0 = n } }

abbrev pub one_number : List Value
one_number = value.Num (pos 7) ∷ []

abbrev pub put : ℕ → Change
put n = record { row = row n; values = Some one_number }

-- ---- three rows

-- the first session has made these changes, and these locks are there
abbrev pub data_with : List Change → List Lock → Data
data_with changes locks = record {
  commits = (put 1 ∷ put 2 ∷ put 3 ∷ []) ∷ [];
  tables = [];
  live = record { id = own_of 1; begun = Some 1; changes = changes; savepoints = [] }
      ∷ record { id = own_of 2; begun = Some 1; changes = []; savepoints = [] }
      ∷ [];
  locks = locks;
}

abbrev pub untouched : Data
untouched = data_with [] []

-- it has locked row 2
abbrev pub one_locked : Data
one_locked = data_with [] ((row 2, own_of 1) ∷ [])

-- it has changed row 1
abbrev pub one_changed : Data
one_changed = data_with (put 1 ∷ []) []

-- the second session has locked row 2
abbrev pub one_held : Data
one_held = data_with [] ((row 2, own_of 2) ∷ [])

-- the first session locks the three rows as FOR UPDATE does
abbrev pub all_for_update : Data → Answered
all_for_update d = with_locks [] (own_of 1) d (row 1 ∷ row 2 ∷ row 3 ∷ [])

-- how many locks it has then
abbrev pub locks_then : Data → ℕ
locks_then d = lock_count (all_for_update d).after (own_of 1)

-- ---- columns

abbrev pub column_of : List ℕ → Column
column_of name = record { name = name; ty = column.Num 9; not_null = true }

abbrev pub one_column : List Column
one_column = column_of (codes "ID") ∷ []

abbrev pub two_columns : List Column
two_columns = column_of (codes "ID") ∷ column_of (codes "X") ∷ []

abbrev pub with_columns : List Column → TableDef
with_columns columns = record { id = record { 0 = 1 }; name = codes "T"; columns = columns; key = 0 ∷ [] }

abbrev pub two_numbers : List Value
two_numbers = value.Num (pos 7) ∷ value.Num (pos 8) ∷ []

abbrev pub number_and_null : List Value
number_and_null = value.Num (pos 7) ∷ value.Null ∷ []
