-- A disk in memory: its calls, and what they leave.
use Rattle.std.specs.Prelude.{◌≡◌, ℕ, ◌≤◌, true, if◌then◌else◌, List, [], ◌∷◌, length, take}
use Rattle.ebr_outside.specs.Disk.{Medium, Torn, Cut, written}
use Rattle.ebr_outside.specs.declared.memory.disk_call.DiskCall.{DiskCall}
use Rattle.ebr_outside.specs.declared.memory.disk_call.DiskCall.TheVariants.{Write, Cut as CutTo, Sync}
use Rattle.ebr_outside.specs.declared.memory.fail.Calls.{Calls}

-- At a moment: what a read gives, what the last sync or the making left, and which images a crash may leave.
pub record Moment : Type 1 where
  pub reads : List ℕ
  pub synced : List ℕ
  pub leaves : List ℕ → Type 0

-- as it was made
abbrev pub begun : List ℕ → Moment
begun bytes = record { reads = bytes; synced = bytes; leaves = λ image. image ≡ bytes }

-- what a read gives after a call
abbrev pub reads_after : DiskCall → List ℕ → List ℕ
reads_after (Write at piece done) bytes = if done then written bytes at piece else bytes
reads_after (CutTo len done) bytes = if done then take len bytes else bytes
reads_after Sync bytes = bytes

-- after a call
abbrev pub after : DiskCall → Moment → Moment
after (Write at piece done) m = record {
  reads = reads_after (Write at piece done) m.reads;
  synced = m.synced;
  leaves = λ image. (before : List ℕ) × m.leaves before × Torn at (length piece) before image;
}
after (CutTo len done) m = record {
  reads = reads_after (CutTo len done) m.reads;
  synced = m.synced;
  leaves = λ image. (before : List ℕ) × m.leaves before × Cut len before image;
}
after Sync m = record { reads = m.reads; synced = m.reads; leaves = λ image. image ≡ m.reads }

-- after calls, the first of them first
abbrev pub replayed : List DiskCall → Moment → Moment
replayed [] m = m
replayed (c ∷ calls) m = replayed calls (after c m)

-- the bytes that it was made of, the calls that changed it or may have, and the count of all calls
pub record DiskState : Type 0 where
  pub first : List ℕ
  pub past : List DiskCall
  pub calls : Calls

abbrev pub now : DiskState → Moment
now s = replayed s.past (begun s.first)

abbrev pub reads : DiskState → List ℕ
reads s = (now s).reads

-- A crash since a moment leaves what it left after some number of calls from there on.
abbrev pub LeftSince : DiskState → ℕ → List ℕ → Type 0
LeftSince s t image = (k : ℕ) × (t ≤ k) × (k ≤ length s.past) × (replayed (take k s.past) (begun s.first)).leaves image

abbrev pub as_medium : DiskState → Medium
as_medium s = record { tells = true; reads = reads s; faults = s.calls.faults; moment = length s.past; leaves = LeftSince s }

-- nothing but the count of calls differs, which hasn't fallen
pub record IsAsBefore (old new : DiskState) : Type 0 where
  pub first : new.first ≡ old.first
  pub past : new.past ≡ old.past
  pub faults : old.calls.faults ≤ new.calls.faults
