-- A row's fate, computed: a table T of a key, a text that takes no NULL, and a number; three committed rows, of which the
-- second got another key since session 1 began; session 2 holds row 3, and has a new row whose key is 9.
use Rattle.std.proofs.Common.{◌≡◌, ℕ, pos, false, true, codes, List, [], ◌∷◌, Option, Some, None, Ok, refl}
use Rattle.ebr_base.specs.declared.code.Code.{Code}
use Rattle.ebr_base.specs.declared.code.Code.TheVariants.{Ora}
use Rattle.ebr_base.specs.declared.row.Change.{Change}
use Rattle.ebr_base.specs.declared.row.RowId.{RowId}
use Rattle.ebr_base.specs.declared.row.TxId.{TxId}
use Rattle.ebr_base.specs.declared.table.TableDef.{TableDef}
use Rattle.ebr_base.specs.declared.value.ColType.TheVariants as column
use Rattle.ebr_base.specs.declared.value.Value.{Value}
use Rattle.ebr_base.specs.declared.value.Value.TheVariants as value
use Rattle.ebr_tx.specs.Calls.{after_change}
use Rattle.ebr_tx.specs.Data.{Data}
use Rattle.ebr_dml.specs.declared.plan.Plan.{Plan}
use Rattle.ebr_dml.specs.declared.plan.Work.TheVariants.{Remove}
use Rattle.ebr_dml.specs.declared.taken.Taken.{Taken}
use Rattle.ebr_dml.specs.Images.{old_values, new_values, after_values}
use Rattle.ebr_dml.specs.Tests.{first_code, insert_tests, update_tests, delete_tests, removal, written}

abbrev t_def : TableDef
t_def = record {
  id = record { 0 = 1 };
  name = codes "T";
  columns = record { name = codes "ID"; ty = column.Num 9; not_null = true }
      ∷ record { name = codes "V"; ty = column.Text 3; not_null = true }
      ∷ record { name = codes "N"; ty = column.Num 1; not_null = false }
      ∷ [];
  key = 0 ∷ [];
}

abbrev row : ℕ → RowId
row n = record { table = record { 0 = 1 }; row = record { 0 = n } }

abbrev session : ℕ → TxId
session n = record { session = record { 0 = n }; depth = 0 }

abbrev values : ℕ → Value → ℕ → List Value
values id v n = value.Num (pos id) ∷ v ∷ value.Num (pos n) ∷ []

abbrev text : Value
text = value.Text (codes "a")

abbrev long : Value
long = value.Text (codes "long")

abbrev gives : ℕ → List Value → Change
gives n new = record { row = row n; values = Some new }

abbrev data_now : Data
data_now = record {
  commits = (gives 1 (values 1 text 1) ∷ gives 2 (values 2 text 2) ∷ gives 3 (values 3 text 3) ∷ []) ∷ (gives 2 (values 5 text 2) ∷ []) ∷ [];
  tables = record { id = record { 0 = 1 }; key = 0 ∷ [] } ∷ [];
  live = record { id = session 1; begun = Some 1; changes = []; savepoints = [] }
      ∷ record { id = session 2; begun = Some 2; changes = gives 4 (values 9 text 9) ∷ []; savepoints = [] }
      ∷ [];
  locks = (row 3, session 2) ∷ [];
}

abbrev updated : ℕ → List Value → Option Code
updated n new = first_code (update_tests data_now (session 1) t_def (row n) new)

-- a row that is held, with all else wrong too
held : updated 3 (values 5 value.Null 10) ≡ Some (Ora 54)
held = refl

-- a row that is late
late : updated 2 (values 5 value.Null 10) ≡ Some (Ora 8177)
late = refl

-- column after column, and NULL before the size
missing : updated 1 (values 5 value.Null 10) ≡ Some (Ora 1407)
missing = refl

too_long : updated 1 (values 5 long 10) ≡ Some (Ora 12899)
too_long = refl

too_many_digits : updated 1 (values 5 text 10) ≡ Some (Ora 1438)
too_many_digits = refl

-- the key: one that another transaction gives a row, one that another row has, one that another row is seen with
key_in_use : updated 1 (values 9 text 1) ≡ Some (Ora 54)
key_in_use = refl

key_taken : updated 1 (values 5 text 1) ≡ Some (Ora 1)
key_taken = refl

key_seen : updated 1 (values 2 text 1) ≡ Some (Ora 8177)
key_seen = refl

-- nothing refuses the row with its own key, or with a free one
same_key : updated 1 (values 1 text 7) ≡ None
same_key = refl

free_key : updated 1 (values 8 text 7) ≡ None
free_key = refl

-- a new row
abbrev inserted : List Value → Option Code
inserted new = first_code (insert_tests data_now (session 1) t_def new)

missing_in_new : inserted (values 5 value.Null 10) ≡ Some (Ora 1400)
missing_in_new = refl

taken_by_new : inserted (values 5 text 1) ≡ Some (Ora 1)
taken_by_new = refl

new_passes : inserted (values 8 text 1) ≡ None
new_passes = refl

-- a row that is removed has no test of columns and key
held_row_removed : first_code (delete_tests data_now (session 1) (row 3)) ≡ Some (Ora 54)
held_row_removed = refl

late_row_removed : first_code (delete_tests data_now (session 1) (row 2)) ≡ Some (Ora 8177)
late_row_removed = refl

abbrev deletes : Plan
deletes = record { table = t_def; source = 0 ∷ 1 ∷ 2 ∷ []; filter = None; work = Remove }

-- a row that is shorter than its table
abbrev short_row : Taken
short_row = record { row = Some (record { 0 = 1 }); values = value.Num (pos 1) ∷ text ∷ [] }

removed : written data_now (session 1) deletes short_row [] ≡ Ok (after_change data_now (session 1) (removal (row 1)))
removed = refl

old_is_filled : old_values deletes short_row ≡ value.Num (pos 1) ∷ text ∷ value.Null ∷ []
old_is_filled = refl

new_is_null : new_values deletes [] short_row ≡ Ok (value.Null ∷ value.Null ∷ value.Null ∷ [])
new_is_null = refl

still_null : after_values deletes (values 1 text 1) ≡ value.Null ∷ value.Null ∷ value.Null ∷ []
still_null = refl
