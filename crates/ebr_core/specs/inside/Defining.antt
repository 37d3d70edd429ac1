-- What the calls that carry out a definition leave.
use Rattle.std.specs.Prelude.{◌≡◌, ℕ, [], ◌∷◌, Result, Ok, Err}
use Rattle.ebr_base.specs.declared.code.Code.{Code}
use Rattle.ebr_asks.specs.declared.answer.Answer.{Answer}
use Rattle.ebr_cross.specs.declared.record.CatalogueRecord.{CatalogueRecord}
use Rattle.ebr_cross.specs.Catalogue.{Lists, HaveOwnKeys, as_catalogue}
use Rattle.ebr_cross.specs.Records.{with_record}
use Rattle.ebr_record.specs.Keeper.{Keeper}
use Rattle.ebr_database.specs.declared.failure.Failure.{Failure}
use Rattle.ebr_database.specs.declared.failure.Failure.TheVariants.{Refused, Halted}
use Rattle.ebr_database.specs.declared.failure.Halt.{Halt}
use Rattle.ebr_database.specs.declared.failure.Halt.TheVariants as why
use Rattle.ebr_database.specs.Outcome.{Outcome}
use Rattle.ebr_database.specs.Shows.{Grew, GaveUp}
use Rattle.ebr_database.specs.Database.{Database}
use Rattle.ebr_units.specs.Living.{AreCurrent}
use Rattle.ebr_core.specs.declared.current.Current.{Current}
use Rattle.ebr_core.specs.Records.{record_of}
use Rattle.ebr_core.specs.inside.Defined.{with_definition_of}
use Rattle.ebr_core.specs.inside.Tables.{with_table_of}
use Rattle.ebr_core.specs.inside.Held.{Holds}

-- What a definition is recorded as: by the outcome that the catalogue tells, where the records take so many bytes.
abbrev pub Recorded : Type 0
Recorded = Outcome ℕ (Result CatalogueRecord Code)

-- The record was kept.
pub record IsKept (old new : Keeper) (o : Recorded) (r : CatalogueRecord) : Type 0 where
  pub made : o.made ≡ record_of r ∷ []
  pub value : o.value ≡ Ok r
  pub grew : Grew old new (record_of r ∷ [])

-- Nothing was kept.
pub record NotKept (old new : Keeper) (o : Recorded) (code : Code) : Type 0 where
  pub made : o.made ≡ []
  pub value : o.value ≡ Err code
  pub grew : Grew old new []

-- by what the keeping of a planned record answers
abbrev pub KeepsPlanned : Keeper → Keeper → Result (Unit {0}) Failure → CatalogueRecord → Recorded → Type 0
KeepsPlanned old new (Ok u) r o = IsKept old new o r
KeepsPlanned old new (Err (Refused code)) r o = NotKept old new o code
KeepsPlanned old new (Err (Halted why)) r o = GaveUp old new o.made why

module _ {K : Type 0} where
  -- The views, the books and the tables are those behind a definition.
  pub record Noticed (lists : Lists) (r : CatalogueRecord) (old new : Current K) : Type 0 where
    pub views : AreCurrent (with_record lists r) new.views
    pub books : AreCurrent (with_record lists r) new.world.book
    pub tables : new.world.tx.contents ≡ with_table_of old.world.tx.contents r
    pub seats : new.seats ≡ old.seats

  -- The catalogue is so too.
  pub record Applied (lists : Lists) (r : CatalogueRecord) (old new : Current K) : Type 0 where
    pub catalogue : new.world.catalogue ≡ as_catalogue (with_record lists r)
    pub own_keys : HaveOwnKeys (with_record lists r)
    pub noticed : Noticed lists r old new

  -- This is so of whichever lists are held.
  abbrev pub ForLists : Current K → (Lists → Type 0) → Type 0
  ForLists now P = (lists : Lists) → HaveOwnKeys lists → AreCurrent lists now.views → AreCurrent lists now.world.book → now.world.catalogue ≡ as_catalogue lists → P lists

module _ {K : Type 0} (as_keeper : K → Keeper) where
  -- This is so of whichever database is held.
  abbrev pub ForHeld : Current K → (Database → Type 0) → Type 0
  ForHeld now P = (db : Database) → Holds as_keeper now db → P db

  -- There is such a database.
  pub record HoldsSome (now : Current K) : Type 0 where
    pub database : Database
    pub holds : Holds as_keeper now database

  -- The definition was carried out, and its record kept.
  pub record IsMade (old new : Current K) (db : Database) (o : Recorded) : Type 0 where
    pub definition : CatalogueRecord
    pub is : IsKept (as_keeper old.world.keeper) (as_keeper new.world.keeper) o definition
    pub holds : Holds as_keeper new (with_definition_of db definition)

  -- It was refused, and nothing is another.
  pub record IsRefused (old new : Current K) (db : Database) (o : Recorded) (code : Code) : Type 0 where
    pub is : NotKept (as_keeper old.world.keeper) (as_keeper new.world.keeper) o code
    pub holds : Holds as_keeper new db

  -- by what the carrying out answers
  abbrev pub Carries : Current K → Current K → Result (Unit {0}) Failure → Database → Recorded → Type 0
  Carries old new (Ok u) db o = IsMade old new db o
  Carries old new (Err (Refused code)) db o = IsRefused old new db o code
  Carries old new (Err (Halted why)) db o = GaveUp (as_keeper old.world.keeper) (as_keeper new.world.keeper) o.made why

  -- This is answered, or there was no memory; the keeper wasn't asked.
  abbrev pub AnswersIn : Current K → Current K → Result Answer Halt → Database → Answer → Type 0
  AnswersIn old new (Ok a) db wanted = (a ≡ wanted) × Holds as_keeper new db × (new.world.keeper ≡ old.world.keeper)
  AnswersIn old new (Err w) db wanted = (w ≡ why.NoMemory) × (new.world.keeper ≡ old.world.keeper)
