-- A disk that is opened: what a crash leaves of it, and what becomes of it where no engine is opened over it.
use Rattle.std.specs.Prelude.{◌≡◌, ◌⊎◌, ℕ, ◌≤◌, IsTrue, List}
use Rattle.ebr_faults.specs.Faults.{Rises}
use Rattle.ebr_outside.specs.Disk.{Medium, Goes}
use Rattle.ebr_record.specs.declared.record.Record.{Record}
use Rattle.ebr_journal.specs.Journal.{HasRecords}
use Rattle.ebr_journal.specs.Start.{NeverRests}
use Rattle.ebr_startup.specs.declared.why.OpenWhy.{OpenWhy}
use Rattle.ebr_startup.specs.declared.why.OpenWhy.TheVariants.{DiskFault, Damaged, NoMemory}
use Rattle.ebr_startup.specs.Damage.{IsDamagedAt}

-- A first sync ended at a moment. Whatever a crash leaves since a moment before the entry was left at the entry, or is P; whatever it
-- leaves from the sync on is P.
pub record Rests (old new : Medium) (P : List ℕ → Type 0) : Type 0 where
  pub synced : ℕ
  pub later : old.moment ≤ synced
  pub within : synced ≤ new.moment
  pub before : (t : ℕ) (image : List ℕ) → t ≤ old.moment → new.leaves t image → old.leaves t image ⊎ P image
  pub after : (image : List ℕ) → new.leaves synced image → P image

-- an image is the file as it was, or has its records
abbrev pub IsKeptAs : List ℕ → List ℕ → Type 0
IsKeptAs bytes image = (image ≡ bytes) ⊎ ((records : List Record) × HasRecords bytes records × HasRecords image records)

-- The file is as it was, byte for byte, and so is what a crash leaves: since before the first sync it may be what was left at the entry.
pub record IsUntouched (old new : Medium) : Type 0 where
  pub reads : new.reads ≡ old.reads
  pub images : NeverRests old new ⊎ Rests old new (λ image. image ≡ old.reads)

-- What a fault or want of memory leaves: the records of the file, and a damaged file as it is.
pub record Keeps (old new : Medium) : Type 0 where
  pub images : NeverRests old new ⊎ Rests old new (IsKeptAs old.reads)
  pub damaged : (at : ℕ) → IsDamagedAt old.reads at → IsUntouched old new

-- What is told of a disk over which none was opened, by the cause. A damaged file stays as it is.
abbrev pub Stays : Medium → OpenWhy → Medium → Type 0
Stays old (Damaged at) new = IsDamagedAt old.reads at × (new.reads ≡ old.reads) × Rests old new (λ image. image ≡ old.reads)
Stays old DiskFault new = Keeps old new
Stays old NoMemory new = Keeps old new

pub record Unopened (old : Medium) (why : OpenWhy) (new : Medium) : Type 0 where
  pub goes : Goes old new
  pub failed : why ≡ DiskFault → Rises old.faults new.faults
  pub told : IsTrue old.tells → Stays old why new
