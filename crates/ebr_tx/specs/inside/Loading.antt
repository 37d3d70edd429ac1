-- What is tested of a commit that is to be loaded.
use Rattle.std.specs.Prelude.{ℕ, ◌≡◌, ◌==◌, ◌&&◌, ◌||◌, Bool, true, false, if◌then◌else◌, is_some, List, [], ◌∷◌, ◌++◌, length, map, Option, Some, None}
use Rattle.std.specs.List.{list_any}
use Rattle.ebr_base.specs.declared.row.Change.{Change}
use Rattle.ebr_base.specs.declared.row.RowId.{RowId}
use Rattle.ebr_base.specs.declared.value.Value.{Value}
use Rattle.ebr_versions.specs.declared.table.Table.{Table}
use Rattle.ebr_versions.specs.Data.{changes_in, changes_row, is_row, row_numbers}
use Rattle.ebr_versions.specs.Keys.{key_of, key_places}
use Rattle.ebr_versions.specs.inside.Index.{entry_of}
use Rattle.ebr_changes.specs.Filed.{Filed}
use Rattle.ebr_tx.specs.Commits.{is_numbered, row_behind}
use Rattle.ebr_tx.specs.Conflicts.{another_has}

-- A change may follow those before it: its row has a number that rows may have, and is there where the change removes it.
abbrev pub may_follow : List (List Change) → List Change → Change → Bool
may_follow commits before c = is_numbered c && (is_some c.values || is_some (row_behind commits before c.row))

-- So it is of each of the changes, made after some others.
abbrev pub all_follow : List (List Change) → List Change → List Change → Bool
all_follow commits before [] = true
all_follow commits before (c ∷ cs) = may_follow commits before c && all_follow commits (before ++ c ∷ []) cs

-- behind the changes another row of the table has the key that the row has by these values
abbrev pub shares : List (List Change) → List Change → RowId → List ℕ → Option (List Value) → Bool
shares commits changes row places None = false
shares commits changes row places (Some values) =
    if length places == 0 then false
    else another_has row.table (Some row.row) places (key_of places values) (λ r. row_behind commits changes r) (row_numbers row.table (changes_in commits ++ changes))

-- behind the changes another row of the table has the row's key
abbrev pub shares_key : List (List Change) → List Table → List Change → RowId → Bool
shares_key commits tables changes row = shares commits changes row (key_places tables row.table) (row_behind commits changes row)

-- the rows are those that the changes are of
abbrev pub AreRowsOf : List Change → List RowId → Type 0
AreRowsOf changes rows = (row : RowId) → list_any (λ x. is_row x row) rows ≡ changes_row row changes

-- the changes, each filed under its row and its key, and the rows that they are of
pub record AreGathered (tables : List Table) (changes : List Change) (own : Filed) (rows : List RowId) : Type 0 where
  pub are : own.changes ≡ changes
  pub entries : own.entries ≡ map (entry_of tables) changes
  pub of : AreRowsOf changes rows
