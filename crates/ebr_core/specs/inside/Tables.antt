-- What holds of the tables of every database, in the data and in the catalogue, and what a definition leaves of them.
use Rattle.std.specs.Prelude.{◌≡◌, ◌≤◌, false, true, List, All}
use Rattle.ebr_base.specs.declared.table.TableDef.{TableDef}
use Rattle.ebr_tables.specs.Definitions.{has_repetition}
use Rattle.ebr_tables.specs.Tables.{AllTables, IdsAscend, IsTable, next_id, same_table_name}
use Rattle.ebr_cross.specs.declared.record.CatalogueRecord.{CatalogueRecord}
use Rattle.ebr_cross.specs.declared.record.CatalogueRecord.TheVariants as made
use Rattle.ebr_cross.specs.Catalogue.{Lists}
use Rattle.ebr_tx.specs.Data.{Data}
use Rattle.ebr_tx.specs.Calls.{after_add_table}
use Rattle.ebr_versions.specs.declared.table.Table.{Table as Added}
use Rattle.ebr_versions.specs.Keys.{is_added, key_places}

-- a table was added with its key
pub record IsAddedWithKey (added : List Added) (t : TableDef) : Type 0 where
  pub is : is_added added t.id ≡ true
  pub key : key_places added t.id ≡ t.key

-- Every living table was added with its key, and nothing was added above the number of tables that were ever made.
pub record HasLiving (added : List Added) (s : AllTables) : Type 0 where
  pub numbers : All (λ (x : Added). x.id.0 ≤ s.made) added
  pub each : All (IsAddedWithKey added) s.living

-- no two living tables share a name, their ids ascend, and each is as tables are
pub record AreAllowed (s : AllTables) : Type 0 where
  pub names : has_repetition same_table_name s.living ≡ false
  pub ids : IdsAscend 0 s.made s.living
  pub each : All IsTable s.living

-- a table that a definition makes has the next id
abbrev pub HasNextId : Lists → CatalogueRecord → Type 0
HasNextId c (made.Table d) = d.id ≡ next_id c.tables
HasNextId c r = Unit {0}

-- the data after what a definition left: with one more table, where it made one
abbrev pub with_table_of : Data → CatalogueRecord → Data
with_table_of d (made.Table t) = after_add_table d t.id t.key
with_table_of d r = d
