-- What the engine begins with, where records were recovered.
use Rattle.std.specs.Prelude.{◌≡◌, ℕ, false, List}
use Rattle.ebr_tx.specs.Data.{Data}
use Rattle.ebr_cross.specs.declared.catalogue.Catalogue.{Catalogue}
use Rattle.ebr_cross.specs.Catalogue.{as_catalogue}
use Rattle.ebr_record.specs.declared.record.Record.{Record}
use Rattle.ebr_record.specs.Keeper.{Keeper, used_by}
use Rattle.ebr_database.specs.Database.{data_of}
use Rattle.ebr_core.specs.Records.{catalogue_of}
use Rattle.ebr_core.specs.Machine.{Build}
use Rattle.ebr_core.specs.inside.Reached.{AreReached}

-- The catalogue and the data are those of these records, with so many sessions, none of which has begun a transaction. Each stored
-- text has room in a record, and the tables are as tables are.
pub record AreRecovered (records : List Record) (sessions : ℕ) (catalogue : Catalogue) (contents : Data) : Type 0 where
  pub lists : catalogue ≡ as_catalogue (catalogue_of records)
  pub contents_are : contents ≡ data_of (Build records sessions)
  pub reached : AreReached records

-- The keeper counts the bytes of a journal of these records, and keeps more.
pub record IsReady (records : List Record) (k : Keeper) : Type 0 where
  pub used : k.used ≡ used_by records
  pub stopped : k.stopped ≡ false
