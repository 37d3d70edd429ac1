-- What the lines of a journal come to.
use Rattle.std.proofs.Common.{ℕ, ◌≡◌, ◌⊎◌, inl, List, [], Option, Some, None, sym, subst}
use Rattle.std.specs.Prelude.{All, IfSome}
use Rattle.std.proofs.lemmas.List.Elements.{All-nil}
use Rattle.ebr_faults.specs.Faults.{Rises}
use Rattle.ebr_words.specs.declared.words.Command.TheVariants.{Dump}
use Rattle.ebr_asks.specs.declared.entry.Entry.{Entry}
use Rattle.ebr_record.specs.declared.record.Record.{Record}
use Rattle.ebr_report.specs.declared.ends.SessionEnd.{SessionEnd}
use Rattle.ebr_worker.specs.Runs.{IsUnwritten}
use Rattle.ebr_startup.specs.declared.why.OpenWhy.{OpenWhy}
use Rattle.ebr_startup.specs.declared.why.OpenWhy.TheVariants as why
use Rattle.ebr_server.specs.declared.exit.ExitCode.{ExitCode}
use Rattle.ebr_server.specs.declared.exit.ExitCode.TheVariants as code
use Rattle.ebr_server.specs.Disks.{DiskStops, IsEntry, Leaves, Unread}
use Rattle.ebr_server.specs.Program.{DumpRan, Handed, LineFailed, NoneRan, Outside, Reported, Stops, Tells, journal_bytes, last_line}
use Rattle.ebr_server.specs.inside.Opened.{LinesTold, OpensNone, ReadsOff, StopsOver, code_of_open}
use Rattle.ebr_server.proofs.Serving.{none_ran}
use Rattle.ebr_server.proofs.Staying.{opens_none}

-- why the disk wasn't opened
opens_stops : (bytes : List ℕ → Option (List ℕ)) (words : List (List ℕ)) (P : Type 0) (old new : ℕ) (c : ExitCode) → OpensNone (Rises old new) c → Stops (Some Dump) bytes words (Rises old new ⊎ P) c
opens_stops bytes words P old new (code.HostFault w) f = (f.0, tt, inl f.1)
opens_stops bytes words P old new code.NoMemory f = tt
opens_stops bytes words P old new (code.TooLong w) f = absurd f
opens_stops bytes words P old new code.Done f = absurd f
opens_stops bytes words P old new code.Usage f = absurd f
opens_stops bytes words P old new code.DiskFault f = absurd f
opens_stops bytes words P old new code.SinkFault f = absurd f
opens_stops bytes words P old new (code.Damaged at) f = absurd f
opens_stops bytes words P old new (code.BadOrder at) f = absurd f

-- why it wasn't read
unread_stops : (bytes : List ℕ → Option (List ℕ)) (words : List (List ℕ)) (F : Type 0) (cause : OpenWhy) (c : ExitCode) → c ≡ code_of_open cause → Stops (Some Dump) bytes words F c
unread_stops bytes words F cause c is = subst (Stops (Some Dump) bytes words F) (sym is) (by cause)
  where
    by : (w : OpenWhy) → Stops (Some Dump) bytes words F (code_of_open w)
    by why.DiskFault = tt
    by (why.Damaged at) = tt
    by why.NoMemory = tt

-- its lines were told
dump_ran_so : {S D : Type 0} (o : Outside S D) (words : List (List ℕ)) (run : Handed S D) (disk now : D) (lines : List ℕ) → IsEntry o.as_medium (journal_bytes o words) disk
    → ((told : Option (List ℕ)) → IsEntry o.as_medium told disk → ReadsOff o.as_medium told lines now) → run.recovered ≡ [] → run.history ≡ [] → run.ends ≡ [] → run.disk ≡ Some now → LinesTold words lines run.code run.faults run.held → DumpRan o words run
dump_ran_so o words run disk now lines entry reads none_recovered no_entry no_end there told =
    let r = reads (journal_bytes o words) entry in
    record {
      no_record = none_recovered;
      no_entry = no_entry;
      no_end = no_end;
      now = now;
      disk_is = there;
      records = r.records;
      disk = r.read;
      unwritten = told.unwritten;
      is_code = told.is_code;
      tells = subst (λ text. Tells words text told.unwritten run.code run.faults run.held) r.lines_are told.tells;
    }

pub dump_ran : {S D : Type 0} (o : Outside S D) (words : List (List ℕ)) (c : ExitCode) (recovered : List Record) (history : List Entry) (ends : List (SessionEnd S)) (sinks : List S) (left : Option D) (faults : ℕ) (held : Option (List ℕ)) (disk now : D) (lines : List ℕ)
    → IsEntry o.as_medium (journal_bytes o words) disk → ((told : Option (List ℕ)) → IsEntry o.as_medium told disk → ReadsOff o.as_medium told lines now) → recovered ≡ [] → history ≡ [] → ends ≡ [] → left ≡ Some now → LinesTold words lines c faults held
    → DumpRan o words (record { code = c; recovered = recovered; history = history; ends = ends; sinks = sinks; disk = left; faults = faults; held = held })
dump_ran o words c recovered history ends sinks left faults held disk now lines entry reads none_recovered no_entry no_end there told =
    dump_ran_so o words (record { code = c; recovered = recovered; history = history; ends = ends; sinks = sinks; disk = left; faults = faults; held = held }) disk now lines entry reads none_recovered no_entry no_end there told

-- ---- no lines were told

-- the disk wasn't opened
pub unopened_ran : {S D : Type 0} (o : Outside S D) (words : List (List ℕ)) (P : Type 0) (old new : ℕ) (c : ExitCode) (run : Handed S D) → OpensNone (Rises old new) c → run.code ≡ c → run.recovered ≡ [] → run.history ≡ [] → run.ends ≡ [] → run.sinks ≡ [] → run.disk ≡ None
    → LineFailed c run.faults → IfSome run.held (λ b. Reported run.faults b [] (last_line c words)) → NoneRan (Stops (Some Dump) o.bytes words (Rises old new ⊎ P)) (Leaves (Some Dump)) o words run
unopened_ran o words P old new c run f is none_recovered no_entry no_end no_sink none failed told =
    none_ran o words Dump (Rises old new ⊎ P) c run (opens_stops o.bytes words P old new c f) (subst (DiskStops (Leaves (Some Dump)) o.as_medium (journal_bytes o words) c) (sym none) (opens_none (Rises old new) c f)) is none_recovered no_entry no_end (subst (All (IsUnwritten o.sink_held o.sink_faults)) (sym no_sink) (All-nil _)) failed told

-- its records weren't read
pub unread_ran : {S D : Type 0} (o : Outside S D) (words : List (List ℕ)) (F : Type 0) (c : ExitCode) (disk : Option D) (run : Handed S D) → StopsOver Unread o.as_medium (journal_bytes o words) c disk → run.code ≡ c → run.recovered ≡ [] → run.history ≡ [] → run.ends ≡ []
    → run.sinks ≡ [] → run.disk ≡ disk → LineFailed c run.faults → IfSome run.held (λ b. Reported run.faults b [] (last_line c words)) → NoneRan (Stops (Some Dump) o.bytes words F) (Leaves (Some Dump)) o words run
unread_ran o words F c disk run over is none_recovered no_entry no_end no_sink there failed told =
    none_ran o words Dump F c run (unread_stops o.bytes words F over.cause c over.is_code) (subst (DiskStops Unread o.as_medium (journal_bytes o words) c) (sym there) over.stays) is none_recovered no_entry no_end (subst (All (IsUnwritten o.sink_held o.sink_faults)) (sym no_sink) (All-nil _)) failed told
