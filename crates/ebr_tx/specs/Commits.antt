-- Which commits may follow others, whatever their changes must be one by one.
-- Oracle Database Concepts 19c, Data Integrity; Database SQL Language Reference 19c, constraint. The limits are own.
use Rattle.std.specs.Prelude.{◌≡◌, ◌<◌, ◌≤◌, ◌&&◌, nat_le, Bool, true, is_some, List, [], ◌∷◌, ◌++◌, length, Option, None}
use Rattle.std.specs.List.{AllByRecursion}
use Rattle.ebr_base.specs.declared.row.Change.{Change}
use Rattle.ebr_base.specs.declared.row.RowId.{RowId}
use Rattle.ebr_base.specs.declared.value.Value.{Value}
use Rattle.ebr_versions.specs.declared.table.Table.{Table}
use Rattle.ebr_versions.specs.Data.{Latest, last_change}
use Rattle.ebr_versions.specs.Keys.{KeysDiffer}
use Rattle.ebr_tx.specs.Reads.{over}
use Rattle.ebr_tx.specs.Limits.{max_changes, max_row}

-- a row's number: from 1 up to the greatest i64
abbrev pub is_numbered : Change → Bool
is_numbered c = nat_le 1 c.row.row.0 && nat_le c.row.row.0 max_row

abbrev pub IsNumbered : Change → Type 0
IsNumbered c = is_numbered c ≡ true

-- what a row is behind some changes that were made after those commits
abbrev pub row_behind : List (List Change) → List Change → RowId → Option (List Value)
row_behind commits changes row = over (last_change row changes) (Latest commits row)

-- A row that a change removes is there, behind the changes before it.
abbrev pub IsThere : List (List Change) → List Change → Change → Type 0
IsThere commits before c = c.values ≡ None → is_some (row_behind commits before c.row) ≡ true

-- So it is of each of the changes, made after some others.
abbrev pub AreThere : List (List Change) → List Change → List Change → Type 0
AreThere commits before [] = Unit {0}
AreThere commits before (c ∷ cs) = IsThere commits before c × AreThere commits (before ++ c ∷ []) cs

-- A commit is allowed behind those before it: it has a change, and not too many; each is as changes may be; what it removes is
-- there; and afterwards no two rows of a table share a key.
pub record IsAllowedOf (P : Change → Type 0) (tables : List Table) (commits : List (List Change)) (changes : List Change) : Type 0 where
  pub some : 0 < length changes
  pub few : length changes ≤ max_changes
  pub each : AllByRecursion P changes
  pub there : AreThere commits [] changes
  pub keys : KeysDiffer (commits ++ changes ∷ []) tables
