-- The steps by which an engine comes to stand over a journal that has begun.
use Rattle.std.specs.Prelude.{◌≡◌, ◌⊎◌, false, IsTrue, ℕ, List, [], Ok}
use Rattle.ebr_faults.specs.Faults.{Rises}
use Rattle.ebr_outside.specs.Disk.{Medium, Goes, Passes}
use Rattle.ebr_record.specs.declared.record.Record.{Record}
use Rattle.ebr_record.specs.Keeper.{Keeper, IsAtRest, used_by}
use Rattle.ebr_journal.specs.declared.found.Found.{Found}
use Rattle.ebr_journal.specs.Keeper.{HasThese, JournalState, Upgrades, as_keeper}
use Rattle.ebr_allowed.specs.Allowed.{AreAllowed}
use Rattle.ebr_core.specs.Engine.{EngineState, no_books}
use Rattle.ebr_startup.specs.declared.why.OpenWhy.{OpenWhy}
use Rattle.ebr_startup.specs.declared.why.OpenWhy.TheVariants.{DiskFault, Damaged}
use Rattle.ebr_startup.specs.Damage.{IsFirstUnallowed}

-- a journal that has begun with these records
pub record HasBegun (k : Keeper) (records : List Record) : Type 0 where
  pub running : k.stopped ≡ false
  pub counted : k.used ≡ used_by records
  pub at_rest : IsAtRest k

-- the engine of these records, over a journal that got its mark
pub record OverMark {D : Type 0} (as_medium : D → Medium) (j : JournalState D) (records : List Record) (sessions : ℕ) (e : EngineState (JournalState D)) : Type 0 where
  pub first : e.history ≡ []
  pub recovered : e.recovered ≡ records
  pub books : e.books ≡ no_books sessions
  pub upgrades : Upgrades (as_keeper as_medium j) (as_keeper as_medium e.keeper) (Ok tt)
  pub images : IsTrue (as_medium j.disk).tells → Passes (as_medium j.disk) (as_medium e.keeper.disk) (HasThese (as_keeper as_medium j).records)

-- it is no damage
abbrev pub IsNoDamage : OpenWhy → Type 0
IsNoDamage (Damaged at) = ⊥
IsNoDamage why = Unit {0}

-- a disk that comes back from a journal that had begun
pub record ComesBack {D : Type 0} (as_medium : D → Medium) (j : JournalState D) (why : OpenWhy) (disk : D) : Type 0 where
  pub goes : Goes (as_medium j.disk) (as_medium disk)
  pub failed : why ≡ DiskFault → Rises (as_medium j.disk).faults (as_medium disk).faults
  pub images : IsTrue (as_medium j.disk).tells → Passes (as_medium j.disk) (as_medium disk) (HasThese (as_keeper as_medium j).records)

-- Where one of the records isn't allowed, the disk comes back at once.
abbrev pub IsDamage : {D : Type 0} → JournalState D → Found → OpenWhy → D → Type 0
IsDamage j found (Damaged at) disk = IsFirstUnallowed found at × (disk ≡ j.disk)
IsDamage j found why disk = AreAllowed found.records ⊎ (disk ≡ j.disk)
