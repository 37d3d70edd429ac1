-- The rows that a statement takes, as its transaction sees them when it starts.
-- Oracle Database SQL Language Reference 19c, UPDATE and DELETE, where_clause. That they come by row number is own.
use Rattle.std.specs.Prelude.{ℕ, nat_lt, Bool, if◌then◌else◌, List, [], ◌∷◌, map, length, Some, None, Result, Ok, Err}
use Rattle.ebr_base.specs.declared.code.Code.{Code}
use Rattle.ebr_base.specs.declared.code.Code.TheVariants.{Ebr}
use Rattle.ebr_base.specs.declared.numbers.TableId.{TableId}
use Rattle.ebr_base.specs.declared.row.TxId.{TxId}
use Rattle.ebr_base.specs.declared.value.Value.{Value}
use Rattle.ebr_ast.specs.declared.sql.SqlTree.{SqlTree}
use Rattle.ebr_ast.specs.declared.sql.SqlTree.TheVariants as sql
use Rattle.ebr_versions.specs.Data.{row_no}
use Rattle.ebr_versions.specs.Keys.{value_at}
use Rattle.ebr_tx.specs.Data.{Data}
use Rattle.ebr_tx.specs.Reads.{row_at}
use Rattle.ebr_query.specs.Results.{in_front, keeps}
use Rattle.ebr_query.specs.Rows.{max_product}
use Rattle.ebr_query.specs.Seen.{numbers_seen, stored}
use Rattle.ebr_dml.specs.declared.plan.Plan.{Plan}
use Rattle.ebr_dml.specs.declared.taken.Taken.{Taken}

-- the row that an INSERT adds: it has no number yet, and no values
abbrev pub new_row : Taken
new_row = record { row = None; values = [] }

-- a row of a table, with its values as the transaction sees them
abbrev pub seen_row : Data → TxId → TableId → ℕ → Taken
seen_row d t table n = record { row = Some (row_no n); values = stored d t (row_at table n) }

-- all rows that it sees, by row number
abbrev pub seen_rows : Data → TxId → TableId → List Taken
seen_rows d t table = map (seen_row d t table) (numbers_seen d t table)

-- the values of columns by their places; one that a row doesn't have, since the column was added later, is NULL
abbrev pub values_at : List ℕ → List Value → List Value
values_at places values = map (value_at values) places

abbrev pub taken_if : Taken → Result Bool Code → Result (List Taken) Code → Result (List Taken) Code
taken_if r (Ok takes) rest = if takes then in_front r rest else rest
taken_if r (Err code) rest = Err code

-- The rows for which WHERE is TRUE, or the first code that it raises for any row.
abbrev pub taken : Plan → List Value → List Taken → Result (List Taken) Code
taken p binds [] = Ok []
taken p binds (r ∷ rest) = taken_if r (keeps p.filter binds (values_at p.source r.values)) (taken p binds rest)

abbrev pub all_taken : Data → TxId → Plan → List Value → Result (List Taken) Code
all_taken d t p binds = taken p binds (seen_rows d t p.table.id)

-- the rows, where there aren't too many to look at
abbrev pub unless_many : Data → TxId → Plan → Result (List Taken) Code → Result (Result (List Taken) Code) Code
unless_many d t p rows = if nat_lt max_product (length (numbers_seen d t p.table.id)) then Err (Ebr 13) else Ok rows

-- The rows of a statement: one new row for an INSERT, and else those that WHERE takes, or the code that it raises. EBR-0013,
-- for UPDATE and DELETE, comes before WHERE is computed.
abbrev pub rows_of : Data → TxId → SqlTree → Plan → List Value → Result (Result (List Taken) Code) Code
rows_of d t (sql.Insert i) p binds = Ok (Ok (new_row ∷ []))
rows_of d t (sql.Apply name) p binds = Ok (all_taken d t p binds)
rows_of d t s p binds = unless_many d t p (all_taken d t p binds)
