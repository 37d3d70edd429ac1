-- A journal that has begun, and one that couldn't.
use Rattle.std.specs.Prelude.{◌≡◌, ◌⊎◌, false, IsTrue, Some}
use Rattle.ebr_faults.specs.Faults.{Rises}
use Rattle.ebr_outside.specs.Disk.{Medium, Goes}
use Rattle.ebr_record.specs.Keeper.{Keeper, IsAtRest, used_by}
use Rattle.ebr_journal.specs.Journal.{IsBlank}
use Rattle.ebr_journal.specs.Found.{AreFit, Holds}
use Rattle.ebr_journal.specs.Start.{AsStarted, BeforeDamage, IsLeft, Remains, RestsSince}
use Rattle.ebr_journal.specs.declared.found.Found.{Found}
use Rattle.ebr_journal.specs.declared.start.StartWhy.{StartWhy}
use Rattle.ebr_journal.specs.declared.start.StartWhy.TheVariants.{DiskFault, Damaged, NoMemory}

-- What is told of a journal that has begun: it keeps the records of the file, which is as it was, but where it was blank. From
-- the end of the first sync on a crash leaves these records.
pub record Begins (old new : Medium) (k : Keeper) (found : Found) : Type 0 where
  pub holds : Holds old.reads found
  pub kept : k.records ≡ Some found.records
  pub same : IsBlank old.reads ⊎ (new.reads ≡ old.reads)
  pub rests : RestsSince old new (AsStarted old.reads found.records)

-- The journal has begun. What is counted of the records is so whether the disk tells or not.
pub record Started (old new : Medium) (k : Keeper) (found : Found) : Type 0 where
  pub goes : Goes old new
  pub running : k.stopped ≡ false
  pub at_rest : IsAtRest k
  pub counted : k.used ≡ used_by found.records
  pub fit : AreFit found
  pub told : IsTrue old.tells → Begins old new k found

-- what is told of a start that failed, by its cause
abbrev pub Fails : Medium → StartWhy → Medium → Type 0
Fails old (Damaged at before) new = IsLeft old new at before × RestsSince old new (λ image. image ≡ old.reads)
Fails old DiskFault new = Remains old new
Fails old NoMemory new = Remains old new

pub record Refused (old : Medium) (why : StartWhy) (new : Medium) : Type 0 where
  pub goes : Goes old new
  pub failed : why ≡ DiskFault → Rises old.faults new.faults
  pub fit : BeforeDamage AreFit why
  pub told : IsTrue old.tells → Fails old why new
