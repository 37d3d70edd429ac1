-- What becomes of a row once its BEFORE triggers have run: its tests in their order, and the change.
-- Oracle Database SQL Language Reference 19c, constraint; Oracle Database Concepts 19c, Data Concurrency and Consistency. The
-- order of the tests is own.
use Rattle.std.specs.Prelude.{ℕ, suc, nat_lt, Bool, true, false, ◌&&◌, ◌||◌, if◌then◌else◌, List, [], ◌∷◌, Option, Some, None, Result}
use Rattle.std.specs.Option.{option_or}
use Rattle.ebr_base.specs.declared.code.Code.{Code}
use Rattle.ebr_base.specs.declared.code.Code.TheVariants.{Ora}
use Rattle.ebr_base.specs.declared.numbers.RowNo.{RowNo}
use Rattle.ebr_base.specs.declared.row.Change.{Change}
use Rattle.ebr_base.specs.declared.row.RowId.{RowId}
use Rattle.ebr_base.specs.declared.row.TxId.{TxId}
use Rattle.ebr_base.specs.declared.table.Column.{Column}
use Rattle.ebr_base.specs.declared.table.TableDef.{TableDef}
use Rattle.ebr_base.specs.declared.value.Value.{Value}
use Rattle.ebr_base.specs.declared.value.Value.TheVariants as value
use Rattle.ebr_value.specs.declared.form.Place.TheVariants.{Sql}
use Rattle.ebr_value.specs.Forms.{fits}
use Rattle.ebr_versions.specs.Keys.{row_in, value_at}
use Rattle.ebr_tx.specs.Data.{Data, own}
use Rattle.ebr_tx.specs.Conflicts.{touch_refusal}
use Rattle.ebr_tx.specs.Calls.{unless_refused, after_change, insertion, new_number, new_key_refusal, changed_key_refusal}
use Rattle.ebr_tx.specs.Limits.{is_full, limit_refusal, max_row}
use Rattle.ebr_dml.specs.declared.plan.Plan.{Plan}
use Rattle.ebr_dml.specs.declared.plan.Work.{Work}
use Rattle.ebr_dml.specs.declared.plan.Work.TheVariants.{Set, Remove}
use Rattle.ebr_dml.specs.declared.taken.Taken.{Taken}

-- the code of the first test that refuses
abbrev pub first_code : List (Option Code) → Option Code
first_code [] = None
first_code (test ∷ tests) = option_or test (first_code tests)

-- ---- the columns

abbrev pub is_null : Value → Bool
is_null value.Null = true
is_null v = false

-- NULL where the column takes none, with the code that the statement has for it
abbrev pub null_refusal : Code → Column → Value → Option Code
null_refusal missing c v = if c.not_null && is_null v then Some missing else None

-- one column: NULL, and then ORA-12899 for a text that is too long or ORA-01438 for a number with too many digits
abbrev pub column_refusal : Code → Column → Value → Option Code
column_refusal missing c v = first_code (null_refusal missing c v ∷ fits v c.ty Sql ∷ [])

abbrev pub columns_from : Code → List Column → ℕ → List Value → List (Option Code)
columns_from missing [] at values = []
columns_from missing (c ∷ columns) at values = column_refusal missing c (value_at values at) ∷ columns_from missing columns (suc at) values

-- the columns of a row, one after the other
abbrev pub columns_refusal : Code → TableDef → List Value → Option Code
columns_refusal missing table values = first_code (columns_from missing table.columns 0 values)

-- ---- the tests of a row, in order

abbrev pub null_inserted : Code
null_inserted = Ora 1400

abbrev pub null_updated : Code
null_updated = Ora 1407

-- EBR-0040 where the transaction has 200,000 changes or the record of its commit would be too long
abbrev pub change_limit : Data → TxId → Change → Option Code
change_limit d t c = limit_refusal (is_full (own d t).changes c)

-- or where a new row's number would be too great
abbrev pub new_row_limit : Data → TxId → TableDef → List Value → Option Code
new_row_limit d t table values =
    limit_refusal (nat_lt max_row (new_number d table.id) || is_full (own d t).changes (insertion d table.id values))

abbrev pub update : RowId → List Value → Change
update row values = record { row = row; values = Some values }

abbrev pub removal : RowId → Change
removal row = record { row = row; values = None }

-- A new row: its columns; its key; EBR-0040.
abbrev pub insert_tests : Data → TxId → TableDef → List Value → List (Option Code)
insert_tests d t table values =
    columns_refusal null_inserted table values
    ∷ new_key_refusal d t table.id None values
    ∷ new_row_limit d t table values
    ∷ []

-- A row that is updated: ORA-00054 where it is held, ORA-08177 where it is late; its columns; its key, where it changes; EBR-0040.
abbrev pub update_tests : Data → TxId → TableDef → RowId → List Value → List (Option Code)
update_tests d t table row values =
    touch_refusal d t row
    ∷ columns_refusal null_updated table values
    ∷ changed_key_refusal d t row values
    ∷ change_limit d t (update row values)
    ∷ []

-- A row that is removed: ORA-00054, ORA-08177; EBR-0040.
abbrev pub delete_tests : Data → TxId → RowId → List (Option Code)
delete_tests d t row = touch_refusal d t row ∷ change_limit d t (removal row) ∷ []

-- ---- the change

-- the data with a change, unless a test refuses it
abbrev pub tested : Data → TxId → List (Option Code) → Change → Result Data Code
tested d t tests c = unless_refused (first_code tests) (after_change d t c)

abbrev pub written_row : Data → TxId → TableDef → Work → RowId → List Value → Result Data Code
written_row d t table (Set sets) row values = tested d t (update_tests d t table row values) (update row values)
written_row d t table Remove row values = tested d t (delete_tests d t row) (removal row)

abbrev pub written_to : Data → TxId → Plan → Option RowNo → List Value → Result Data Code
written_to d t p None values = tested d t (insert_tests d t p.table values) (insertion d p.table.id values)
written_to d t p (Some n) values = written_row d t p.table p.work (row_in p.table.id n) values

-- A row's fate, with the values that its BEFORE triggers left: the data after its change, or the first code that refuses it.
abbrev pub written : Data → TxId → Plan → Taken → List Value → Result Data Code
written d t p r values = written_to d t p r.row values
