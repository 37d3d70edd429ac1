-- Which commits a database's tables allow: of which rows, and what becomes of these.
-- Oracle Database Concepts 19c, Data Integrity; Database SQL Language Reference 19c, constraint. The limits are own.
use Rattle.std.specs.Prelude.{◌≡◌, ◌&&◌, not, Bool, true, false, is_some, find, List, [], ◌∷◌, Option, Some, None}
use Rattle.ebr_base.specs.declared.row.Change.{Change}
use Rattle.ebr_base.specs.declared.table.Column.{Column}
use Rattle.ebr_base.specs.declared.table.TableDef.{TableDef}
use Rattle.ebr_base.specs.declared.value.Value.{Value}
use Rattle.ebr_value.specs.declared.form.Place.TheVariants.{Sql}
use Rattle.ebr_value.specs.Forms.{fits}
use Rattle.ebr_versions.specs.declared.table.Table.{Table}
use Rattle.ebr_tx.specs.Commits.{IsAllowedOf, is_numbered}
use Rattle.ebr_tables.specs.Tables.{has_id}
use Rattle.ebr_dml.specs.Tests.{is_null}

-- NULL only where the column takes it; a number of few enough digits, or a text of few enough bytes
abbrev pub fits_column : Column → Value → Bool
fits_column c v = not (c.not_null && is_null v) && not (is_some (fits v c.ty Sql))

-- as many values as columns, each of which fits its column
abbrev pub fit_columns : List Column → List Value → Bool
fit_columns [] [] = true
fit_columns (c ∷ cs) (v ∷ vs) = fits_column c v && fit_columns cs vs
fit_columns cs vs = false

-- what a change makes of a row of this table; no row is of a table that isn't there
abbrev pub suits_table : Option TableDef → Option (List Value) → Bool
suits_table None values = false
suits_table (Some t) None = true
suits_table (Some t) (Some values) = fit_columns t.columns values

-- The row has a number that rows may have, its table lives, and what it becomes fits the table's columns.
abbrev pub is_suitable : List TableDef → Change → Bool
is_suitable living c = is_numbered c && suits_table (find (has_id c.row.table) living) c.values

abbrev pub IsSuitable : List TableDef → Change → Type 0
IsSuitable living c = is_suitable living c ≡ true

-- A commit is allowed behind those before it, among the tables that live.
abbrev pub IsAllowedCommit : List TableDef → List Table → List (List Change) → List Change → Type 0
IsAllowedCommit living tables commits changes = IsAllowedOf (IsSuitable living) tables commits changes
