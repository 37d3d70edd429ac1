-- An engine that was opened over a disk.
use Rattle.std.specs.Prelude.{◌≡◌, ℕ, IsTrue, List, [], Some}
use Rattle.ebr_outside.specs.Disk.{Medium, Goes}
use Rattle.ebr_record.specs.declared.record.Record.{Record}
use Rattle.ebr_record.specs.Keeper.{Keeper, IsAtRest}
use Rattle.ebr_journal.specs.Journal.{HasRecords}
use Rattle.ebr_journal.specs.Keeper.{JournalState, as_keeper}
use Rattle.ebr_allowed.specs.Allowed.{AreAllowed}
use Rattle.ebr_core.specs.Engine.{EngineState, no_books}
use Rattle.ebr_core.specs.Recovered.{IsReady}
use Rattle.ebr_startup.specs.Damage.{HasDatabase}
use Rattle.ebr_startup.specs.Opened.{Rests}

-- What is told of an engine over a disk: it recovered the records of the file, and its keeper has them. From the end of the first sync
-- on a crash leaves these.
pub record Recovers (old new : Medium) (records : List Record) (k : Keeper) : Type 0 where
  pub has : HasDatabase old.reads records
  pub kept : k.records ≡ Some records
  pub rests : Rests old new (λ image. HasRecords image records)

-- the engine before its first ask, over the journal of the disk
pub record Opened {D : Type 0} (as_medium : D → Medium) (disk : D) (sessions : ℕ) (e : EngineState (JournalState D)) : Type 0 where
  pub goes : Goes (as_medium disk) (as_medium e.keeper.disk)
  pub first : e.history ≡ []
  pub books : e.books ≡ no_books sessions
  pub allowed : AreAllowed e.recovered
  pub ready : IsReady e.recovered (as_keeper as_medium e.keeper)
  pub at_rest : IsAtRest (as_keeper as_medium e.keeper)
  pub told : IsTrue (as_medium disk).tells → Recovers (as_medium disk) (as_medium e.keeper.disk) e.recovered (as_keeper as_medium e.keeper)
