-- What becomes of the disk that a command opens, and what a crash at each moment of the run leaves of it.
use Rattle.std.specs.Prelude.{◌≡◌, ◌⊎◌, ℕ, ◌<◌, ◌≤◌, Bool, ◌||◌, not, IsTrue, true, false, IfSome, List, [], ◌∷◌, ◌++◌, Option, Some, None}
use Rattle.ebr_faults.specs.Faults.{Rises}
use Rattle.ebr_words.specs.declared.words.Command.{Command}
use Rattle.ebr_words.specs.declared.words.Command.TheVariants as command
use Rattle.ebr_outside.specs.Disk.{Goes, HoldsJust, LeavesNow, Medium, Stands}
use Rattle.ebr_asks.specs.declared.answer.Answer.{Answer}
use Rattle.ebr_asks.specs.declared.answer.Answer.TheVariants as answer
use Rattle.ebr_asks.specs.declared.entry.Entry.{Entry}
use Rattle.ebr_record.specs.declared.record.Record.{Record}
use Rattle.ebr_database.specs.Shows.{Between, OneMore}
use Rattle.ebr_journal.specs.Keeper.{HasNoOther}
use Rattle.ebr_allowed.specs.Allowed.{AreAllowed}
use Rattle.ebr_core.specs.FirstRecords.{Begins}
use Rattle.ebr_core.specs.History.{Acknowledged, Records, is_light}
use Rattle.ebr_core.specs.Machine.{Build}
use Rattle.ebr_startup.specs.Damage.{HasDatabase, IsDamagedAt}
use Rattle.ebr_startup.specs.Opened.{Unopened}
use Rattle.ebr_startup.specs.declared.why.OpenWhy.{OpenWhy}
use Rattle.ebr_startup.specs.declared.why.OpenWhy.TheVariants as why
use Rattle.ebr_worker.specs.Matches.{has_fault}
use Rattle.ebr_server.specs.declared.exit.ExitCode.{ExitCode}
use Rattle.ebr_server.specs.declared.exit.ExitCode.TheVariants as code

-- ---- a stop at any moment

-- A crash since a moment may leave an image with these records and no others. A damaged image, which has none, leaves any list.
abbrev pub LeavesRecords : Medium → ℕ → List Record → Type 0
LeavesRecords m t records = (image : List ℕ) × m.leaves t image × HasNoOther image records

-- The image has the recovered records and the first of those that the run made.
abbrev pub HasFirst : (List ℕ → List Record → Type 0) → List Record → List Record → List ℕ → Type 0
HasFirst Has recovered made image = (l : List Record) × Has image l × Between (Some recovered) made l

-- The engine gave up with an answer: the disk failed, or there was no memory for an ask that isn't light.
abbrev pub ends_engine : Answer → Bool → Bool
ends_engine answer.DiskFault light = true
ends_engine answer.NoMemory light = not light
ends_engine a light = false

-- one of the entries says that it gave up
abbrev pub has_given_up : List Entry → Bool
has_given_up [] = false
has_given_up (x ∷ history) = ends_engine x.answer (is_light x.ask) || has_given_up history

-- A stop at any moment of a run. The first sync of the journal ended at one of them: each image that a crash leaves from then on has the
-- records that were recovered and the first of those that the run made. Where the entry had just one image, so has each image since the
-- entry. Where it had others, a crash since before the first sync leaves such records, or what it left at the entry.
--
-- The first of the records that the run made were kept, and all where no entry says that the engine gave up; the acknowledged ones are the
-- first of those. Each image that a crash leaves now has all that were kept, and at most the next one: so what an ask kept before it
-- failed, as by an autonomous commit, is in each of them.
pub record Survives (Has : List ℕ → List Record → Type 0) (entry now : Medium) (recovered made acknowledged : List Record) (gave_up : Bool) : Type 0 where
  pub synced : ℕ
  pub later : entry.moment ≤ synced
  pub within : synced ≤ now.moment
  pub before : (t : ℕ) (l : List Record) → t ≤ entry.moment → LeavesRecords now t l → LeavesRecords entry t l ⊎ Between (Some recovered) made l
  pub just : (bytes : List ℕ) → HoldsJust entry bytes → (image : List ℕ) → now.leaves entry.moment image → HasFirst Has recovered made image
  pub after : (image : List ℕ) → now.leaves synced image → HasFirst Has recovered made image
  pub kept : List Record
  pub left : List Record
  pub made_is : made ≡ kept ++ left
  pub has_acknowledged : Begins acknowledged kept
  pub all : gave_up ≡ false → left ≡ []
  pub end : (image : List ℕ) → LeavesNow now image → (l : List Record) × Has image l × OneMore (Some (recovered ++ kept)) left l

-- ---- the disk of a run

-- The disk as the host opened it: it had failed at nothing, and holds just the bytes of the word, where these are told.
pub record IsEntry {D : Type 0} (as_medium : D → Medium) (told : Option (List ℕ)) (entry : D) : Type 0 where
  pub holds : IfSome told (HoldsJust (as_medium entry))
  pub fresh : (as_medium entry).faults ≡ 0

-- Sessions ran over the disk. The history began with the records of the file, each allowed behind those before it. The disk failed
-- where an entry says so. A database is opened from each image that a crash leaves.
pub record RanOver {D : Type 0} (as_medium : D → Medium) (told : Option (List ℕ)) (sessions : ℕ) (recovered : List Record) (history : List Entry) (now : D) : Type 0 where
  pub entry : D
  pub is_entry : IsEntry as_medium told entry
  pub goes : Goes (as_medium entry) (as_medium now)
  pub allowed : AreAllowed recovered
  pub failed : has_fault history ≡ true → 0 < (as_medium now).faults
  pub recovers : IsTrue (as_medium entry).tells → HasDatabase (as_medium entry).reads recovered
  pub survives : IsTrue (as_medium entry).tells
      → Survives HasDatabase (as_medium entry) (as_medium now) recovered (Records (Build recovered sessions) history) (Acknowledged (Build recovered sessions) history) (has_given_up history)

-- ---- a disk over which none began

-- the records of a disk couldn't be read, and it was left as it was
pub record Unread (old : Medium) (cause : OpenWhy) (new : Medium) : Type 0 where
  pub stands : Stands old new
  pub failed : cause ≡ why.DiskFault → Rises old.faults new.faults
  pub damaged : IsTrue old.tells → (at : ℕ) → cause ≡ why.Damaged at → IsDamagedAt old.reads at

-- What a command leaves of a disk that it opened for nothing: `dump` the disk as it was, `run` and `rehearse` a disk over which no engine
-- was opened, or none that a session has asked.
abbrev pub Leaves : Option Command → Medium → OpenWhy → Medium → Type 0
Leaves None = Unopened
Leaves (Some command.Try) = Unopened
Leaves (Some command.Dump) = Unread
Leaves (Some command.Run) = Unopened
Leaves (Some command.Rehearse) = Unopened

-- the cause that a code says
abbrev pub cause_in : ExitCode → Option OpenWhy
cause_in code.DiskFault = Some why.DiskFault
cause_in (code.Damaged at) = Some (why.Damaged at)
cause_in code.NoMemory = Some why.NoMemory
cause_in c = None

-- The disk was opened, and came to nothing for this cause. Nothing is lost.
pub record StaysOver {D : Type 0} (Left : Medium → OpenWhy → Medium → Type 0) (as_medium : D → Medium) (told : Option (List ℕ)) (cause : OpenWhy) (now : D) : Type 0 where
  pub entry : D
  pub is_entry : IsEntry as_medium told entry
  pub left : Left (as_medium entry) cause (as_medium now)
  pub failed : cause ≡ why.DiskFault → 0 < (as_medium now).faults

abbrev pub StaysBy : {D : Type 0} → (Medium → OpenWhy → Medium → Type 0) → (D → Medium) → Option (List ℕ) → Option OpenWhy → D → Type 0
StaysBy Left as_medium told None now = ⊥
StaysBy Left as_medium told (Some cause) now = StaysOver Left as_medium told cause now

-- the codes that want a disk, and those that say nothing of one
abbrev pub NeedsNone : ExitCode → Type 0
NeedsNone code.DiskFault = ⊥
NeedsNone (code.Damaged at) = ⊥
NeedsNone c = Unit {0}

-- What became of the disk of a run that ended before its sessions began: it wasn't opened, or stays as it was.
abbrev pub DiskStops : {D : Type 0} → (Medium → OpenWhy → Medium → Type 0) → (D → Medium) → Option (List ℕ) → ExitCode → Option D → Type 0
DiskStops Left as_medium told c None = NeedsNone c
DiskStops Left as_medium told c (Some now) = StaysBy Left as_medium told (cause_in c) now

-- Records were read off the disk, which was left as it was.
pub record WasReadOff {D : Type 0} (as_medium : D → Medium) (told : Option (List ℕ)) (records : List Record) (now : D) : Type 0 where
  pub entry : D
  pub is_entry : IsEntry as_medium told entry
  pub stands : Stands (as_medium entry) (as_medium now)
  pub allowed : AreAllowed records
  pub has : IsTrue (as_medium entry).tells → HasDatabase (as_medium entry).reads records
