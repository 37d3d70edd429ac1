-- What holds of the records of every database that the machine reaches.
use Rattle.std.specs.Prelude.{List}
use Rattle.ebr_record.specs.declared.record.Record.{Record}
use Rattle.ebr_record.specs.declared.record.Record.TheVariants.{Commit}
use Rattle.ebr_core.specs.Records.{catalogue_of}
use Rattle.ebr_core.specs.inside.Stored.{AreSmall}
use Rattle.ebr_core.specs.inside.Tables.{AreAllowed}

-- The texts of their catalogue are small, and its tables are as tables are. All else holds of any records.
pub record AreReached (records : List Record) : Type 0 where
  pub small : AreSmall (catalogue_of records)
  pub allowed : AreAllowed (catalogue_of records).tables

-- a commit, which changes nothing of the catalogue
abbrev pub IsCommit : Record → Type 0
IsCommit (Commit changes) = Unit {0}
IsCommit r = ⊥
