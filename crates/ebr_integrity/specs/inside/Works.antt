-- What statements and asks for transactions do: their commits are allowed, and the integrity of the data stays.
use Rattle.std.specs.Prelude.{◌≡◌, List, [], ◌∷◌, ◌++◌}
use Rattle.std.specs.List.{filter_map}
use Rattle.ebr_base.specs.declared.row.Change.{Change}
use Rattle.ebr_base.specs.declared.row.TxId.{TxId}
use Rattle.ebr_base.specs.declared.table.TableDef.{TableDef}
use Rattle.ebr_versions.specs.declared.table.Table.{Table}
use Rattle.ebr_record.specs.declared.record.Record.{Record}
use Rattle.ebr_record.specs.declared.record.Record.TheVariants as made
use Rattle.ebr_database.specs.Base.{Base}
use Rattle.ebr_database.specs.Database.{commit_in}
use Rattle.ebr_levels.specs.Keeps.{UnderChange}
use Rattle.ebr_levels.specs.Levels.{Leaves}
use Rattle.ebr_integrity.specs.Commits.{IsAllowedCommit, IsSuitable}
use Rattle.ebr_integrity.specs.Integrity.{IsIntactBy}

-- These records are commits, each of which is allowed behind those before it.
abbrev pub AreAllowedCommits : List TableDef → List Table → List (List Change) → List Record → Type 0
AreAllowedCommits living tables commits [] = Unit {0}
AreAllowedCommits living tables commits (made.Commit changes ∷ rest) = IsAllowedCommit living tables commits changes × AreAllowedCommits living tables (commits ++ changes ∷ []) rest
AreAllowedCommits living tables commits (r ∷ rest) = ⊥

-- The records that were made are allowed commits, which the data have more; and their integrity stays.
pub record Works (living : List TableDef) (b : Base) (made : List Record) (now : Base) : Type 0 where
  pub allowed : AreAllowedCommits living b.data_now.tables b.data_now.commits made
  pub more : now.data_now.commits ≡ b.data_now.commits ++ filter_map commit_in made
  pub tables : now.data_now.tables ≡ b.data_now.tables
  pub intact : IsIntactBy (IsSuitable living) now.data_now

-- So it was in this transaction, which leaves the others as they were.
pub record WorksIn (living : List TableDef) (b : Base) (t : TxId) (under : UnderChange) (made : List Record) (now : Base) : Type 0 where
  pub works : Works living b made now
  pub leaves : Leaves b.data_now t under now.data_now
