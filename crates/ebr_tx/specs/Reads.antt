-- What a transaction sees: what was committed at its beginning, overlaid by its own changes.
-- Oracle Database Concepts 19c, Data Concurrency and Consistency, Transaction-Level Read Consistency.
use Rattle.std.specs.Prelude.{ℕ, Bool, ◌&&◌, nat_lt, List, ◌++◌, filter, Option, Some, None, option_map, is_some}
use Rattle.ebr_base.specs.declared.numbers.RowNo.{RowNo}
use Rattle.ebr_base.specs.declared.numbers.TableId.{TableId}
use Rattle.ebr_base.specs.declared.row.Change.{Change}
use Rattle.ebr_base.specs.declared.row.RowId.{RowId}
use Rattle.ebr_base.specs.declared.row.TxId.{TxId}
use Rattle.ebr_base.specs.declared.value.Value.{Value}
use Rattle.ebr_versions.specs.Data.{At, Latest, last_change, changes_in, row_numbers, least, row_no}
use Rattle.ebr_versions.specs.Keys.{row_in}
use Rattle.ebr_tx.specs.Data.{Transaction, Data, own}

-- what a change makes of a row, or else what was there before
abbrev pub over : Option Change → Option (List Value) → Option (List Value)
over None before = before
over (Some c) before = c.values

-- what was committed at a beginning, or by now where there was none
abbrev pub committed : List (List Change) → Option ℕ → RowId → Option (List Value)
committed commits None row = Latest commits row
committed commits (Some n) row = At commits n row

-- the values of a row as a transaction sees it
abbrev pub seen_by : List (List Change) → Transaction → RowId → Option (List Value)
seen_by commits x row = over (last_change row x.changes) (committed commits x.begun row)

-- The values of a row as the transaction sees it: those by its own last change of the row, or else what was committed.
abbrev pub Sees : Data → TxId → RowId → Option (List Value)
Sees d t row = seen_by d.commits (own d t) row

abbrev pub row_at : TableId → ℕ → RowId
row_at table n = row_in table (row_no n)

-- the numbers of the table's rows that are in a commit or among the transaction's own changes
abbrev pub numbers_by : List (List Change) → Transaction → TableId → List ℕ
numbers_by commits x table = row_numbers table (changes_in commits ++ x.changes)

-- the row has a number above that one, and the transaction sees it
abbrev pub is_seen_after : List (List Change) → Transaction → TableId → ℕ → ℕ → Bool
is_seen_after commits x table after n = nat_lt after n && is_some (seen_by commits x (row_at table n))

-- the next row of the table that a transaction sees
abbrev pub next_by : List (List Change) → Transaction → TableId → RowNo → Option RowNo
next_by commits x table after = option_map row_no (least (filter (is_seen_after commits x table after.0) (numbers_by commits x table)))

-- The next row of the table that the transaction sees: the least number above that one.
abbrev pub next_seen : Data → TxId → TableId → RowNo → Option RowNo
next_seen d t table after = next_by d.commits (own d t) table after
