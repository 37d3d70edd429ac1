-- What holds of the live transactions at all times, so that the commit of each is allowed.
use Rattle.std.specs.Prelude.{◌≡◌, ◌≢◌, true, false, List, [], Some, find, unwrap_or}
use Rattle.std.specs.List.{AllByRecursion}
use Rattle.ebr_base.specs.declared.numbers.TableId.{TableId}
use Rattle.ebr_base.specs.declared.row.Change.{Change}
use Rattle.ebr_base.specs.declared.row.RowId.{RowId}
use Rattle.ebr_base.specs.declared.row.TxId.{TxId}
use Rattle.ebr_base.specs.declared.table.TableDef.{TableDef}
use Rattle.ebr_versions.specs.declared.table.Table.{Table}
use Rattle.ebr_versions.specs.Data.{changes_row, changes_in}
use Rattle.ebr_versions.specs.Keys.{KeysDiffer, is_added}
use Rattle.ebr_tx.specs.Commits.{AreThere, IsNumbered}
use Rattle.ebr_tx.specs.Data.{Transaction, Data, is_named, not_begun}
use Rattle.ebr_tx.specs.inside.Sound.{IsSound}
use Rattle.ebr_tables.specs.Tables.{has_id}
use Rattle.ebr_integrity.specs.Commits.{IsSuitable}

-- the changes of the transaction of that name; none where it isn't live
abbrev pub changes_of : List Transaction → TxId → List Change
changes_of live t = (unwrap_or (find (is_named t) live) (not_begun t)).changes

-- No row is changed by both.
abbrev pub ShareNoRow : List Change → List Change → Type 0
ShareNoRow xs ys = (row : RowId) → changes_row row xs ≡ true → changes_row row ys ≡ false

-- the change is of a table that was added
abbrev pub IsOfAdded : List Table → Change → Type 0
IsOfAdded tables c = is_added tables c.row.table ≡ true

-- Each change is as changes may be, what is removed is there, and no row is changed by two transactions.
pub record AreOrderly (P : Change → Type 0) (commits : List (List Change)) (live : List Transaction) : Type 0 where
  pub each : (t : TxId) → AllByRecursion P (changes_of live t)
  pub there : (t : TxId) → AreThere commits [] (changes_of live t)
  pub apart : (t u : TxId) → t ≢ u → ShareNoRow (changes_of live t) (changes_of live u)

-- With it, keys differ; and the rows of all commits have numbers that rows may have, and are of tables that were added.
pub record HasIntegrity (P : Change → Type 0) (commits : List (List Change)) (tables : List Table) (live : List Transaction) : Type 0 where
  pub sound : IsSound commits tables live
  pub keys : KeysDiffer commits tables
  pub numbered : AllByRecursion IsNumbered (changes_in commits)
  pub added : AllByRecursion (IsOfAdded tables) (changes_in commits)
  pub orderly : AreOrderly P commits live

-- so it is of all data
abbrev pub IsIntactBy : (Change → Type 0) → Data → Type 0
IsIntactBy P d = HasIntegrity P d.commits d.tables d.live

-- The data have their integrity, and the tables that live were added.
pub record IsIntact (living : List TableDef) (d : Data) : Type 0 where
  pub intact : IsIntactBy (IsSuitable living) d
  pub known : (id : TableId) (t : TableDef) → find (has_id id) living ≡ Some t → is_added d.tables id ≡ true
