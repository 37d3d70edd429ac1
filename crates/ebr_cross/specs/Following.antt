-- Which record may be carried out next, and what carrying it out does. Each record that a definition makes may be carried out; of a
-- record of objects nothing is asked.
use Rattle.std.specs.Prelude.{◌≡◌, ◌≢◌, ℕ, ◌<◌, true, List, length, Option, Some, None, IsSome, Result, Ok, Err}
use Rattle.ebr_base.specs.declared.clone_in.NoMemory.{NoMemory}
use Rattle.ebr_base.specs.declared.numbers.EditionNo.{EditionNo}
use Rattle.ebr_base.specs.declared.numbers.TableId.{TableId}
use Rattle.ebr_base.specs.declared.table.Column.{Column}
use Rattle.ebr_base.specs.declared.table.TableDef.{TableDef}
use Rattle.ebr_base.specs.Keys.{table_named}
use Rattle.ebr_editions.specs.Editions.{Editions, child_of, edition_named, is_living, living, max_editions}
use Rattle.ebr_tables.specs.Tables.{AllTables, MayJoin, add_refusal, table_of_id}
use Rattle.ebr_cross.specs.declared.catalogue.Catalogue.{Catalogue}
use Rattle.ebr_cross.specs.declared.record.CatalogueRecord.{CatalogueRecord}
use Rattle.ebr_cross.specs.declared.record.CatalogueRecord.TheVariants as made
use Rattle.ebr_cross.specs.Catalogue.{ForLists, as_catalogue}
use Rattle.ebr_cross.specs.Records.{table_name, with_record}

-- a child of a living edition that has none, under a name that no living edition has
pub record MayBeMade (c : Editions) (name : List ℕ) (parent : EditionNo) : Type 0 where
  pub lives : is_living c.made parent ≡ true
  pub childless : child_of c.made parent ≡ None
  pub free : edition_named c.made name ≡ None
  pub room : length (living c.made) < max_editions

-- a living edition that has no child, and isn't the default
pub record MayGo (c : Editions) (e : EditionNo) : Type 0 where
  pub lives : is_living c.made e ≡ true
  pub childless : child_of c.made e ≡ None
  pub other : e ≢ c.default

-- a column that the living table of an id may get
pub record MayWiden (s : AllTables) (id : TableId) (column : Column) : Type 0 where
  pub there : IsSome (table_of_id id s.living)
  pub accepted : add_refusal (table_named (table_name s id) s.living) column ≡ None

abbrev pub MayFollow : Catalogue → CatalogueRecord → Type 0
MayFollow c (made.Edition name parent) = MayBeMade c.chain name parent
MayFollow c (made.EditionGone e) = MayGo c.chain e
MayFollow c (made.Default e) = is_living c.chain.made e ≡ true
MayFollow c (made.Table t) = MayJoin c.tables t
MayFollow c (made.Column id column) = MayWiden c.tables id column
MayFollow c (made.TableGone id) = IsSome (table_of_id id c.tables.living)
MayFollow c r = Unit {0}

-- The catalogue is as the record leaves it, or where there was no memory as it was.
abbrev pub CarriesOut : Catalogue → Catalogue → CatalogueRecord → Result (Unit {0}) NoMemory → Type 0
CarriesOut old new r (Ok u) = ForLists old (λ c. new ≡ as_catalogue (with_record c r))
CarriesOut old new r (Err e) = new ≡ old
