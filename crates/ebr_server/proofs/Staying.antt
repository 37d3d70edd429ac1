-- What becomes of the disk of a run that ends before its sessions begin.
use Rattle.std.proofs.Common.{ℕ, ◌≡◌, inl, inr, IsTrue, List, Option, Some, refl, sym, ◌∙◌, ap, subst}
use Rattle.std.specs.Prelude.{Ok, Err, Result}
use Rattle.ebr_faults.specs.Faults.{Rises}
use Rattle.ebr_outside.specs.Disk.{Medium, Stands}
use Rattle.ebr_record.specs.declared.record.Record.{Record}
use Rattle.ebr_dump.specs.Dump.{Dump}
use Rattle.ebr_allowed.specs.Allowed.{AreAllowed}
use Rattle.ebr_journal.specs.Journal.{HasRecords}
use Rattle.ebr_journal.specs.Keeper.{JournalState}
use Rattle.ebr_core.specs.Engine.{EngineState}
use Rattle.ebr_startup.specs.Damage.{HasDatabase}
use Rattle.ebr_startup.specs.Engines.{Opened}
use Rattle.ebr_startup.specs.Opened.{IsKeptAs, Rests, Unopened}
use Rattle.ebr_startup.proofs.Files.{has_records, never_damaged}
use Rattle.ebr_startup.specs.Read.{Reads}
use Rattle.ebr_startup.specs.declared.why.OpenWhy.{OpenWhy}
use Rattle.ebr_startup.specs.declared.why.OpenWhy.TheVariants as why
use Rattle.ebr_server.specs.declared.exit.ExitCode.{ExitCode}
use Rattle.ebr_server.specs.declared.exit.ExitCode.TheVariants as code
use Rattle.ebr_server.specs.Disks.{DiskStops, IsEntry, NeedsNone, StaysBy, StaysOver, Unread, cause_in}
use Rattle.ebr_server.specs.inside.Opened.{Fails, FailsFrom, MakesNone, OpensNone, OrderStops, ReadsOff, StopsOver, code_of_open}
use Rattle.ebr_server.proofs.Surviving.{some_faults}

-- ---- no disk was opened

pub fails_none : (bytes : List ℕ → Option (List ℕ)) (words : List (List ℕ)) (at : ℕ) (F : Type 0) (c : ExitCode) → Fails bytes words at F c → NeedsNone c
fails_none bytes words at F code.DiskFault f = f
fails_none bytes words at F (code.Damaged place) f = f
fails_none bytes words at F code.Done f = tt
fails_none bytes words at F code.Usage f = tt
fails_none bytes words at F (code.HostFault w) f = tt
fails_none bytes words at F code.SinkFault f = tt
fails_none bytes words at F code.NoMemory f = tt
fails_none bytes words at F (code.BadOrder place) f = tt
fails_none bytes words at F (code.TooLong w) f = tt

pub from_none : (bytes : List ℕ → Option (List ℕ)) (words : List (List ℕ)) (at : ℕ) (F : Type 0) (c : ExitCode) → FailsFrom bytes words at F c → NeedsNone c
from_none bytes words at F code.DiskFault f = f
from_none bytes words at F (code.Damaged place) f = f
from_none bytes words at F code.Done f = tt
from_none bytes words at F code.Usage f = tt
from_none bytes words at F (code.HostFault w) f = tt
from_none bytes words at F code.SinkFault f = tt
from_none bytes words at F code.NoMemory f = tt
from_none bytes words at F (code.BadOrder place) f = tt
from_none bytes words at F (code.TooLong w) f = tt

makes_none : (words : List (List ℕ)) (at : ℕ) (F : Type 0) (c : ExitCode) → MakesNone words at F c → NeedsNone c
makes_none words at F code.DiskFault f = f
makes_none words at F (code.Damaged place) f = f
makes_none words at F code.Done f = tt
makes_none words at F code.Usage f = tt
makes_none words at F (code.HostFault w) f = tt
makes_none words at F code.SinkFault f = tt
makes_none words at F code.NoMemory f = tt
makes_none words at F (code.BadOrder place) f = tt
makes_none words at F (code.TooLong w) f = tt

pub sinks_none : (words : List (List ℕ)) (at : ℕ) (F : Type 0) (c d : ExitCode) → c ≡ d → MakesNone words at F d → NeedsNone c
sinks_none words at F c d is f = subst NeedsNone (sym is) (makes_none words at F d f)

order_none : (n : ℕ) (order : List ℕ) (c : ExitCode) → OrderStops n order c → NeedsNone c
order_none n order code.DiskFault f = f
order_none n order (code.Damaged place) f = f
order_none n order code.Done f = tt
order_none n order code.Usage f = tt
order_none n order (code.HostFault w) f = tt
order_none n order code.SinkFault f = tt
order_none n order code.NoMemory f = tt
order_none n order (code.BadOrder place) f = tt
order_none n order (code.TooLong w) f = tt

pub bad_none : (n : ℕ) (order : List ℕ) (c d : ExitCode) → c ≡ d → OrderStops n order d → NeedsNone c
bad_none n order c d is f = subst NeedsNone (sym is) (order_none n order d f)

pub opens_none : (F : Type 0) (c : ExitCode) → OpensNone F c → NeedsNone c
opens_none F code.DiskFault f = f
opens_none F (code.Damaged place) f = f
opens_none F code.Done f = tt
opens_none F code.Usage f = tt
opens_none F (code.HostFault w) f = tt
opens_none F code.SinkFault f = tt
opens_none F code.NoMemory f = tt
opens_none F (code.BadOrder place) f = tt
opens_none F (code.TooLong w) f = tt

pub unopened_none : (F : Type 0) (c d : ExitCode) → c ≡ d → OpensNone F d → NeedsNone c
unopened_none F c d is f = subst NeedsNone (sym is) (opens_none F d f)

-- ---- an engine was opened that nobody has asked

kept_as : (old new : Medium) (records : List Record) → HasDatabase old.reads records → Rests old new (λ image. HasRecords image records) → Rests old new (IsKeptAs old.reads)
kept_as old new records has rests = record {
  synced = rests.synced;
  later = rests.later;
  within = rests.within;
  before = λ t image le left. elim (rests.before t image le left) [ inl was ↦ inl was | inr these ↦ inr (same image these) ];
  after = λ image left. same image (rests.after image left);
}
  where
    same : (image : List ℕ) → HasRecords image records → IsKeptAs old.reads image
    same image these = inr (records, has_records old.reads records has, these)

pub unasked : {D : Type 0} (as_medium : D → Medium) (disk : D) (sessions : ℕ) (e : EngineState (JournalState D)) → Opened as_medium disk sessions e → Unopened (as_medium disk) why.NoMemory (as_medium e.keeper.disk)
unasked as_medium disk sessions e opened = record {
  goes = opened.goes;
  failed = λ is. absurd (no_fault is);
  told = λ tells.
      let t = opened.told tells in
      record {
        images = inr (kept_as (as_medium disk) (as_medium e.keeper.disk) e.recovered t.has t.rests);
        damaged = λ at bad. absurd (never_damaged (as_medium disk).reads e.recovered at t.has bad);
      };
}
  where
    no_fault : why.NoMemory ≡ why.DiskFault → ⊥
    no_fault e = cc

-- ---- a disk was opened, and no engine over it

abbrev no_records : OpenWhy → Result (List Record) OpenWhy
no_records cause = Err cause

module _ {D : Type 0} (as_medium : D → Medium) (told : Option (List ℕ)) (entry : D) (is_entry : IsEntry as_medium told entry) where
  stays : (Left : Medium → OpenWhy → Medium → Type 0) (cause : OpenWhy) (now : D) → Left (as_medium entry) cause (as_medium now) → (cause ≡ why.DiskFault → Rises (as_medium entry).faults (as_medium now).faults) → StaysOver Left as_medium told cause now
  stays Left cause now left failed = record {
    entry = entry;
    is_entry = is_entry;
    left = left;
    failed = λ is. some_faults (as_medium entry).faults (as_medium now).faults (failed is);
  }

  cause_back : (cause : OpenWhy) → cause_in (code_of_open cause) ≡ Some cause
  cause_back why.DiskFault = refl
  cause_back (why.Damaged at) = refl
  cause_back why.NoMemory = refl

  stops_by : (Left : Medium → OpenWhy → Medium → Type 0) (cause : OpenWhy) (now : D) (c : ExitCode) (disk : Option D) → c ≡ code_of_open cause → disk ≡ Some now → StaysOver Left as_medium told cause now → StopsOver Left as_medium told c disk
  stops_by Left cause now c disk is there over = record {
    cause = cause;
    is_code = is;
    stays = subst (DiskStops Left as_medium told c) (sym there) (subst (λ x. StaysBy Left as_medium told x now) (sym (ap cause_in is ∙ cause_back cause)) over);
  }

  pub stops_over : (cause : OpenWhy) (now : D) (c : ExitCode) (disk : Option D) → c ≡ code_of_open cause → disk ≡ Some now → Unopened (as_medium entry) cause (as_medium now) → StopsOver Unopened as_medium told c disk
  stops_over cause now c disk is there unopened = stops_by Unopened cause now c disk is there (stays Unopened cause now unopened unopened.failed)

  pub stops_unread : (cause : OpenWhy) (now : D) (c : ExitCode) (disk : Option D) → c ≡ code_of_open cause → disk ≡ Some now → Unread (as_medium entry) cause (as_medium now) → StopsOver Unread as_medium told c disk
  stops_unread cause now c disk is there unread = stops_by Unread cause now c disk is there (stays Unread cause now unread unread.failed)

  -- .. for what was read of it
  pub unread : (cause : OpenWhy) (now : D) → Stands (as_medium entry) (as_medium now) → ((no_records cause ≡ no_records why.DiskFault) → Rises (as_medium entry).faults (as_medium now).faults)
      → (IsTrue (as_medium entry).tells → Reads (as_medium entry).reads (Err cause)) → Unread (as_medium entry) cause (as_medium now)
  unread cause now stands failed reads = record { stands = stands; failed = λ is. failed (ap no_records is); damaged = λ tells at is. subst (λ w. Reads (as_medium entry).reads (Err w)) is (reads tells) }

  -- .. and where there was no memory for the lines
  pub unwritten : (now : D) → Stands (as_medium entry) (as_medium now) → Unread (as_medium entry) why.NoMemory (as_medium now)
  unwritten now stands = record { stands = stands; failed = λ is. absurd (no_fault is); damaged = λ tells at is. absurd (no_damage at is) }
    where
      no_fault : why.NoMemory ≡ why.DiskFault → ⊥
      no_fault e = cc

      no_damage : (at : ℕ) → why.NoMemory ≡ why.Damaged at → ⊥
      no_damage at e = cc

  -- the records were read
  pub reads_off : (now : D) (records : List Record) (lines : List ℕ) → Stands (as_medium entry) (as_medium now) → AreAllowed records → (IsTrue (as_medium entry).tells → Reads (as_medium entry).reads (Ok records)) → lines ≡ Dump records
      → ReadsOff as_medium told lines now
  reads_off now records lines stands allowed reads is =
      record { records = records; read = record { entry = entry; is_entry = is_entry; stands = stands; allowed = allowed; has = reads }; lines_are = is }
