-- What an answer promises of other databases: definitions in other editions can't alter it but through crossedition triggers.
-- Oracle Database Development Guide 19c, Using Edition-Based Redefinition: what is defined in one edition doesn't change another.
-- What each ask needs of the other database is own.
use Rattle.std.specs.Prelude.{◌≡◌, List, Some}
use Rattle.ebr_base.specs.declared.numbers.EditionNo.{EditionNo}
use Rattle.ebr_base.specs.declared.numbers.SessionId.{SessionId}
use Rattle.ebr_ast.specs.declared.definition.Definition.{Definition}
use Rattle.ebr_ast.specs.declared.definition.Definition.TheVariants as definition
use Rattle.ebr_asks.specs.declared.answer.Answer.{Answer}
use Rattle.ebr_asks.specs.declared.answer.Answer.TheVariants.{DiskFault, NoMemory, Stopped}
use Rattle.ebr_asks.specs.declared.ask.Ask.{Ask}
use Rattle.ebr_asks.specs.declared.ask.Ask.TheVariants.{Sql, Ddl, SetEdition}
use Rattle.ebr_editions.specs.Objects.{entries_in}
use Rattle.ebr_cross.specs.Catalogue as catalogue
use Rattle.ebr_cross.specs.Catalogue.{Lists}
use Rattle.ebr_record.specs.declared.record.Record.{Record}
use Rattle.ebr_database.specs.Database.{Database, Replied, on_top}
use Rattle.ebr_database.specs.Outcome.{Question}
use Rattle.ebr_exec.specs.Places.{names_of, own_place}
use Rattle.ebr_bodies.specs.Agree.{Agree, NeverFull}
use Rattle.ebr_bodies.specs.OtherDatabases.{DifferInCatalogue}
use Rattle.ebr_core.specs.History.{session_edition}
use Rattle.ebr_core.specs.Machine.{Reply, lists_of}

-- The edition sees the same in both catalogues.
abbrev pub SeesAlike : Lists → Lists → EditionNo → Type 0
SeesAlike c d e = catalogue.View c e ≡ catalogue.View d e

-- It has also had as many objects defined or dropped in both, so that the next one has the same stamp.
pub record StampsAlike (c d : Lists) (e : EditionNo) : Type 0 where
  pub view : SeesAlike c d e
  pub count : entries_in c.entries e ≡ entries_in d.entries e

-- The catalogues agree for a definition in an edition. Nothing is said of definitions of editions.
abbrev pub AgreeToDefine : Lists → Lists → EditionNo → Definition → Type 0
AgreeToDefine c d e (definition.CreateEdition name parent) = ⊥
AgreeToDefine c d e (definition.DropEdition name cascade) = ⊥
AgreeToDefine c d e (definition.DefaultEdition name) = ⊥
AgreeToDefine c d e (definition.AlterTrigger name enabled) = StampsAlike c d e
AgreeToDefine c d e (definition.CreateObject replace u) = StampsAlike c d e
AgreeToDefine c d e what = SeesAlike c d e

-- They agree for an ask that a session makes in an edition, and that has asked this. Nothing is said of the choice of an edition.
abbrev pub AgreeFor : Lists → Lists → EditionNo → Database → SessionId → Ask → List Question → Type 0
AgreeFor c d e db s (Sql stmt binds left) asked = Agree (names_of c) (names_of d) (own_place e (on_top db s)) stmt asked
AgreeFor c d e db s (Ddl what text) asked = AgreeToDefine c d e what
AgreeFor c d e db s (SetEdition name) asked = ⊥
AgreeFor c d e db s q asked = SeesAlike c d e

-- The reply has this answer and made these records. It leaves a database that differs from this one in its catalogue alone, and in
-- which the edition sees the same.
pub record EndsAlike (e : EditionNo) (a : Answer) (made : List Record) (now : Database) (r : Replied) : Type 0 where
  pub answer : r.answer ≡ a
  pub records : r.records ≡ made
  pub leaves : DifferInCatalogue now r.database
  pub view : SeesAlike (lists_of r.database) (lists_of now) e

-- What a session was answered in its edition, and what that left, are the same in every database that differs in its catalogue
-- alone, and whose catalogue agrees for the ask, where EBR-0042 arises in neither.
abbrev pub IsAnsweredApart : Database → SessionId → Ask → Answer → Database → Type 0
IsAnsweredApart db s q a now = (e : EditionNo) (other : Database) → session_edition db s ≡ Some e → DifferInCatalogue db other
    → AgreeFor (lists_of db) (lists_of other) e db s q (Reply db s q).questions → NeverFull (Reply db s q).questions → NeverFull (Reply other s q).questions
    → EndsAlike e a (Reply db s q).records now (Reply other s q)

-- So it is unless the engine gives up, or has done so.
abbrev pub IsApart : Database → SessionId → Ask → Answer → Database → Type 0
IsApart db s q DiskFault now = Unit {0}
IsApart db s q NoMemory now = Unit {0}
IsApart db s q Stopped now = Unit {0}
IsApart db s q a now = IsAnsweredApart db s q a now
