-- The journal of a disk as a keeper of records.
use Rattle.std.specs.Prelude.{◌≡◌, ℕ, ◌+◌, ◌<◌, ◌≤◌, Bool, true, false, IsTrue, if◌then◌else◌, List, [], ◌∷◌, ◌++◌, length, take, Option, Some, None, IfSome, Result, Ok, Err}
use Rattle.ebr_faults.specs.Faults.{Rises}
use Rattle.ebr_outside.specs.Disk.{Medium, LeavesNow}
use Rattle.ebr_outside.specs.Disk as medium
use Rattle.ebr_record.specs.declared.keep.JournalFault.{JournalFault}
use Rattle.ebr_record.specs.declared.keep.JournalFault.TheVariants.{DiskFault, Stopped, Full, NoMemory}
use Rattle.ebr_record.specs.declared.record.Record.{Record}
use Rattle.ebr_record.specs.Keeper.{Keeper, LeavesLess, Passes, Stands, max_used, used_by, Answered, Becomes, Elapses, IsAtRest}
use Rattle.ebr_encoding.specs.declared.form.Form.{Form}
use Rattle.ebr_encoding.specs.declared.form.Form.TheVariants.{Short, Long}
use Rattle.ebr_journal.specs.Journal.{Layout, form_of, front, last_gate, records_in, AreSpelled, IsSafe, HasRecords, recovered}

-- A journal: its disk; the place of its closed gate; the bytes that its records are counted with; the form of the next record,
-- which is long exactly where the mark is there; and whether it has stopped.
pub record JournalState (D : Type 0) : Type 0 where
  pub disk : D
  pub gate : ℕ
  pub used : ℕ
  pub form : Form
  pub stopped : Bool

-- the records in front of the closed gate
abbrev pub kept : List ℕ → ℕ → List Record
kept bytes gate = records_in (recovered (take gate bytes ++ 0 ∷ []))

-- The bytes have no other records. A file that has none at all, a damaged one, is so with whatever list.
abbrev pub HasNoOther : List ℕ → List Record → Type 0
HasNoOther bytes records = (others : List Record) → HasRecords bytes others → others ≡ records

-- What a journal tells as a keeper: a stop may leave what an image of its disk has as its records. A damaged image may leave any
-- list, so what is promised of each list that a stop may leave says, too, that it leaves no damaged image.
abbrev pub keeper_of : Medium → ℕ → ℕ → Bool → Keeper
keeper_of m gate used stopped = record {
  records = if m.tells then Some (kept m.reads gate) else None;
  used = used;
  faults = m.faults;
  stopped = stopped;
  moment = m.moment;
  tells = m.tells;
  may_leave = λ t records. (image : List ℕ) × m.leaves t image × HasNoOther image records;
}

-- this is what stands in front of the closed gate
pub record HasFront (bytes : List ℕ) (gate : ℕ) (l : Layout) : Type 0 where
  pub place : gate ≡ length (front l)
  pub front : take gate bytes ≡ front l
  pub spelled : AreSpelled l

-- it is all that is there, and a crash now leaves what a read gives
pub record IsSettled (m : Medium) (gate : ℕ) (l : Layout) : Type 0 where
  pub safe : IsSafe m.reads l
  pub place : gate ≡ length (front l)
  pub only : (image : List ℕ) → LeavesNow m image → image ≡ m.reads

-- what a journal keeps of a disk that tells: some records stand in front of the gate, and until it stops they are all
pub record IsKept (m : Medium) (gate used : ℕ) (form : Form) (stopped : Bool) : Type 0 where
  pub layout : Layout
  pub front : HasFront m.reads gate layout
  pub counts : used ≡ used_by (records_in layout)
  pub follows : form ≡ form_of layout.long
  pub settled : stopped ≡ false → IsSettled m gate layout

-- what is counted beside the bytes in front of the gate: the gate, and the mark where it isn't there
abbrev pub beside : Form → ℕ
beside Short = 8
beside Long = 1

-- what holds of each journal
pub record IsSound (m : Medium) (gate used : ℕ) (form : Form) (stopped : Bool) : Type 0 where
  pub least : 1 ≤ gate
  pub within : gate ≤ last_gate form
  pub room : gate + beside form ≤ used
  pub small : used < max_used
  pub kept : IsTrue m.tells → IsKept m gate used form stopped

-- the journal as a keeper
abbrev pub as_keeper : {D : Type 0} → (D → Medium) → JournalState D → Keeper
as_keeper as_medium j = keeper_of (as_medium j.disk) j.gate j.used j.stopped

-- since a later moment a stop leaves no more than since an earlier one
pub leaves_less : {D : Type 0} (as_medium : D → Medium) → ((disk : D) → medium.LeavesLess (as_medium disk)) → (j : JournalState D) → LeavesLess (as_keeper as_medium j)
leaves_less as_medium law j t u l earlier left = (left.0, law j.disk t u left.0 earlier left.1, left.2)

-- what an append does, by its answer
pub record Appends (old new : Keeper) (r : Record) (answer : Result (Unit {0}) JournalFault) : Type 0 where
  pub why : Answered old new r answer
  pub after : Becomes old new r answer
  pub rest : IsAtRest new
  pub moments : IsTrue old.tells → Elapses old new r answer

-- the cause of each answer of `upgrade`
abbrev pub IsWhy : Keeper → Keeper → Result (Unit {0}) JournalFault → Type 0
IsWhy old new (Ok x) = old.stopped ≡ false
IsWhy old new (Err DiskFault) = (old.stopped ≡ false) × Rises old.faults new.faults
IsWhy old new (Err Stopped) = old.stopped ≡ true
IsWhy old new (Err (Full len)) = ⊥
IsWhy old new (Err NoMemory) = old.stopped ≡ false

-- whether it has stopped then
abbrev pub is_stopped_after : Result (Unit {0}) JournalFault → Bool
is_stopped_after (Ok x) = false
is_stopped_after (Err fault) = true

-- the records are as they were, whatever it answers
pub record Keeps (old new : Keeper) (answer : Result (Unit {0}) JournalFault) : Type 0 where
  pub records : new.records ≡ old.records
  pub used : new.used ≡ old.used
  pub faults : old.faults ≤ new.faults
  pub stopped : new.stopped ≡ is_stopped_after answer
  pub moment : old.moment ≤ new.moment
  pub tells : new.tells ≡ old.tells

-- the image has these records, where they are told
abbrev pub HasThese : Option (List Record) → List ℕ → Type 0
HasThese records image = IfSome records (λ kept. HasRecords image kept)

-- at each moment of an upgrade a stop leaves just the kept list
abbrev pub AreThese : Option (List Record) → List Record → Type 0
AreThese records l = IfSome records (λ kept. l ≡ kept)

abbrev pub Lasts : Keeper → Keeper → Result (Unit {0}) JournalFault → Type 0
Lasts old new (Err Stopped) = Stands old new
Lasts old new answer = Passes old new (AreThese old.records)

-- what an upgrade does, by its answer
pub record Upgrades (old new : Keeper) (answer : Result (Unit {0}) JournalFault) : Type 0 where
  pub why : IsWhy old new answer
  pub after : Keeps old new answer
  pub rest : IsAtRest new
  pub moments : IsTrue old.tells → Lasts old new answer
