-- The committed data with its tables, as contracts see it. (own)
use Rattle.std.specs.Prelude.{◌≡◌, ◌≢◌, ◌<◌, ◌≤◌, ℕ, List, length, take, true, All, AllPairs}
use Rattle.ebr_base.specs.declared.numbers.TheConstants.{MAX_COUNT}
use Rattle.ebr_base.specs.declared.row.Change.{Change}
use Rattle.ebr_versions.specs.declared.table.Table.{Table}
use Rattle.ebr_versions.specs.declared.index.Entry.{Entry}
use Rattle.ebr_versions.specs.Keys.{is_added, KeysDiffer}
use Rattle.ebr_versions.specs.inside.Index.{Indexed, AreEntriesOf, AreFiled}

-- Room that a reserve made: for a commit of changes of these rows and keys, and for so many commits.
pub record Room : Type 0 where
  pub pending : List Entry
  pub free : ℕ

-- what a `Versions` holds
pub record Store : Type 0 where
  pub commits : List (List Change)
  pub tables : List Table
  pub room : Room

-- There is room for committing these changes, and the commit can be counted. `reserve` makes it and `commit` asks for it;
-- a caller doesn't look into this word.
unfoldable pub HasRoom : Store → List Change → Type 0
HasRoom store changes = AreEntriesOf store.tables changes store.room.pending × (0 < store.room.free) × (length store.commits < MAX_COUNT)

-- each change is of a table that was added
abbrev pub OfAdded : List Table → List Change → Type 0
OfAdded tables changes = All (λ (c : Change). is_added tables c.row.table ≡ true) changes

-- what holds of the data at any time
pub record IsSound (commits : List (List Change)) (tables : List Table) : Type 0 where
  pub few : length commits ≤ MAX_COUNT
  pub added : All (OfAdded tables) commits
  pub apart : AllPairs (λ (x y : Table). x.id ≢ y.id) tables
  pub keys : KeysDiffer commits tables

-- what holds of the fields of a `Versions`
pub record IsStored (commits : List (List Change)) (tables : List Table) (index : Indexed) : Type 0 where
  pub sound : IsSound commits tables
  pub keys_then : (n : ℕ) → KeysDiffer (take n commits) tables
  pub filed : AreFiled tables commits index
