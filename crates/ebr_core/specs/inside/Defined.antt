-- What a definition makes of a database.
use Rattle.std.specs.Prelude.{◌≡◌, ◌+◌, false, [], ◌∷◌, ◌++◌}
use Rattle.ebr_versions.specs.Keys.{is_added}
use Rattle.ebr_tx.specs.Data.{Data}
use Rattle.ebr_cross.specs.declared.record.CatalogueRecord.{CatalogueRecord}
use Rattle.ebr_cross.specs.declared.record.CatalogueRecord.TheVariants as made
use Rattle.ebr_cross.specs.Records.{with_record}
use Rattle.ebr_record.specs.Keeper.{share, used_by}
use Rattle.ebr_database.specs.Database.{Database, data_of, base_in}
use Rattle.ebr_core.specs.Records.{record_of, catalogue_of}
use Rattle.ebr_core.specs.inside.Stored.{IsSmall}
use Rattle.ebr_core.specs.inside.Tables.{with_table_of}
use Rattle.ebr_core.specs.inside.Reached.{AreReached}

-- a table that a definition makes wasn't added before
abbrev pub IsNew : Data → CatalogueRecord → Type 0
IsNew d (made.Table t) = is_added d.tables t.id ≡ false
IsNew d r = Unit {0}

-- the database with a definition's record
abbrev pub with_definition_of : Database → CatalogueRecord → Database
with_definition_of db r = record db { records = db.records ++ record_of r ∷ [] }

-- What it left has room in a record, and a table of it is new. The catalogue and the data that are read off the records then are
-- what the calls leave that take notice of it.
pub record Defines (db : Database) (r : CatalogueRecord) : Type 0 where
  pub small : IsSmall r
  pub new : IsNew (data_of db) r
  pub lists : catalogue_of (db.records ++ record_of r ∷ []) ≡ with_record (catalogue_of db.records) r
  pub base : base_in (with_definition_of db r) ≡ record { data_now = with_table_of (data_of db) r; used = used_by db.records + share (record_of r) }
  pub reached : AreReached (db.records ++ record_of r ∷ [])
