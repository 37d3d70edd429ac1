-- How a journal begins.
use Rattle.std.specs.Prelude.{◌≡◌, ◌⊎◌, ℕ, ◌≤◌, IsTrue, List, [], Result, Ok, Err}
use Rattle.ebr_outside.specs.declared.disk.DiskErr.{DiskErr}
use Rattle.ebr_outside.specs.declared.disk.DiskErr.TheVariants as disk
use Rattle.ebr_outside.specs.Disk.{Medium, LeavesNow, Passes}
use Rattle.ebr_journal.specs.Journal.{Layout, last_gate, none_yet, IsBlank, HasRecords}
use Rattle.ebr_journal.specs.Keeper.{IsSettled}
use Rattle.ebr_journal.specs.Found.{AreFit, Counts, Holds, IsDamaged, IsLaidOut}
use Rattle.ebr_record.specs.declared.record.Record.{Record}
use Rattle.ebr_journal.specs.declared.found.Found.{Found}
use Rattle.ebr_journal.specs.declared.read.Walked.{Walked}
use Rattle.ebr_journal.specs.declared.start.StartWhy.{StartWhy}
use Rattle.ebr_journal.specs.declared.start.StartWhy.TheVariants.{DiskFault, Damaged, NoMemory}

abbrev pub why_of : DiskErr → StartWhy
why_of disk.Failed = DiskFault
why_of disk.NoMemory = NoMemory

-- what a scan answers: the records of a file, or exactly its damage; the other answers are free here
abbrev pub Scans : List ℕ → Result Found StartWhy → Type 0
Scans bytes (Ok found) = Holds bytes found
Scans bytes (Err (Damaged at before)) = IsDamaged bytes at before
Scans bytes (Err DiskFault) = Unit {0}
Scans bytes (Err NoMemory) = Unit {0}

-- a blank file, which a crash leaves as a read gives it
pub record IsFresh (m : Medium) : Type 0 where
  pub blank : IsBlank m.reads
  pub only : (image : List ℕ) → LeavesNow m image → image ≡ m.reads

-- a journal of no records was made, where all went well
abbrev pub IsMade : Result (Unit {0}) DiskErr → Medium → Type 0
IsMade (Ok x) new = IsSettled new 1 none_yet
IsMade (Err e) new = Unit {0}

-- moments go by: what a crash since an earlier one leaves was left before, or is left since the first of them
abbrev pub Spans : Medium → Medium → Type 0
Spans old new = (t : ℕ) (image : List ℕ) → t ≤ old.moment → new.leaves t image → old.leaves t image ⊎ new.leaves old.moment image

pub record Makes (old : Medium) (answer : Result (Unit {0}) DiskErr) (new : Medium) : Type 0 where
  pub made : IsMade answer new
  pub time : Passes old new (λ image. HasRecords image [])
  pub spans : Spans old new

-- what a crash leaves once a start that failed had brought the disk to rest: the file as it was read, or where that was blank, a
-- blank one or a journal of no records
abbrev pub IsAsRead : List ℕ → List ℕ → Type 0
IsAsRead bytes image = (image ≡ bytes) ⊎ (IsBlank bytes × HasRecords image [])

-- what a crash leaves once one that succeeded had: these records, in the file as it was read, unless that was blank
abbrev pub AsStarted : List ℕ → List Record → List ℕ → Type 0
AsStarted bytes records image = HasRecords image records × (IsBlank bytes ⊎ (image ≡ bytes))

-- The first sync ended at a moment. Whatever a crash left before it was left at the entry; whatever it leaves from there on is P.
pub record RestsSince (old new : Medium) (P : List ℕ → Type 0) : Type 0 where
  pub synced : ℕ
  pub later : old.moment ≤ synced
  pub within : synced ≤ new.moment
  pub before : (t : ℕ) (image : List ℕ) → t ≤ old.moment → new.leaves t image → old.leaves t image ⊎ new.leaves synced image
  pub after : (image : List ℕ) → new.leaves synced image → P image

-- the first sync failed: whatever a crash leaves was left at the entry
abbrev pub NeverRests : Medium → Medium → Type 0
NeverRests old new = (t : ℕ) (image : List ℕ) → t ≤ old.moment → new.leaves t image → old.leaves t image

-- What a start leaves that a fault or want of memory ended: a file that isn't blank is as it was, and so is what a crash leaves.
pub record Remains (old new : Medium) : Type 0 where
  pub same : IsBlank old.reads ⊎ (new.reads ≡ old.reads)
  pub images : NeverRests old new ⊎ RestsSince old new (IsAsRead old.reads)

-- a journal of these records was opened, in a file that is as it was, but where it was blank
pub record IsOpened (old new : Medium) (w : Walked) : Type 0 where
  pub holds : Holds old.reads w.found
  pub layout : Layout
  pub laid : IsLaidOut w layout
  pub settled : IsSettled new w.gate layout
  pub same : IsBlank old.reads ⊎ (new.reads ≡ old.reads)

-- a damaged file is as it was
pub record IsLeft (old new : Medium) (at : ℕ) (before : Found) : Type 0 where
  pub damaged : IsDamaged old.reads at before
  pub same : new.reads ≡ old.reads

-- what was found, where a disk tells what it holds
abbrev pub Finds : Medium → Result Walked StartWhy → Medium → Type 0
Finds old (Ok w) new = IsOpened old new w × RestsSince old new (AsStarted old.reads w.found.records)
Finds old (Err (Damaged at before)) new = IsLeft old new at before × RestsSince old new (λ image. image ≡ old.reads)
Finds old (Err DiskFault) new = Remains old new
Finds old (Err NoMemory) new = Remains old new

-- what is so of the records in front of a damage
abbrev pub BeforeDamage : (Found → Type 0) → StartWhy → Type 0
BeforeDamage P (Damaged at before) = P before
BeforeDamage P why = Unit {0}

-- the gate lies within a journal
abbrev pub HasGate : Result Walked StartWhy → Type 0
HasGate (Ok w) = Counts w × (w.gate ≤ last_gate w.form)
HasGate (Err why) = BeforeDamage AreFit why

pub record Opened (old : Medium) (answer : Result Walked StartWhy) (new : Medium) : Type 0 where
  pub gate : HasGate answer
  pub finds : IsTrue old.tells → Finds old answer new
