-- What a command has come to.
use Rattle.std.proofs.Common.{ℕ, ◌≡◌, ◌<◌, ◌⊎◌, inl, inr, List, [], Option, Some, sym, subst}
use Rattle.std.specs.Prelude.{All, IfSome, IsSomeAnd}
use Rattle.ebr_outside.specs.Disk.{Medium}
use Rattle.ebr_words.specs.declared.words.Command.{Command}
use Rattle.ebr_words.specs.declared.words.Command.TheVariants.{Try}
use Rattle.ebr_startup.specs.declared.why.OpenWhy.{OpenWhy}
use Rattle.ebr_worker.specs.Runs.{IsUnwritten}
use Rattle.ebr_server.specs.declared.exit.ExitCode.{ExitCode}
use Rattle.ebr_server.specs.declared.exit.ExitCode.TheVariants as code
use Rattle.ebr_server.specs.declared.opened.Stop.{Stop}
use Rattle.ebr_server.specs.Disks.{DiskStops, Leaves}
use Rattle.ebr_server.specs.Program.{Handed, IsLong, LineFailed, NoneRan, Outside, Reported, Served, Stops, journal_bytes, last_line}
use Rattle.ebr_server.specs.inside.Opened.{Fails, ScriptServed, WantsMemory, WasRead}

-- ---- no session has begun

pub none_by : {S D : Type 0} (stops others : ExitCode → Type 0) (Left : Medium → OpenWhy → Medium → Type 0) (o : Outside S D) (words : List (List ℕ)) (run : Handed S D) → ((d : ExitCode) → stops d → others d) → NoneRan stops Left o words run → NoneRan others Left o words run
none_by stops others Left o words run by none = record {
  stop = by run.code none.stop;
  no_record = none.no_record;
  no_entry = none.no_entry;
  no_end = none.no_end;
  unwritten = none.unwritten;
  disk = none.disk;
  failed = none.failed;
  report = none.report;
}

pub none_ran : {S D : Type 0} (o : Outside S D) (words : List (List ℕ)) (k : Command) (F : Type 0) (c : ExitCode) (run : Handed S D) → Stops (Some k) o.bytes words F c → DiskStops (Leaves (Some k)) o.as_medium (journal_bytes o words) c run.disk → run.code ≡ c
    → run.recovered ≡ [] → run.history ≡ [] → run.ends ≡ [] → All (IsUnwritten o.sink_held o.sink_faults) run.sinks → LineFailed c run.faults → IfSome run.held (λ b. Reported run.faults b [] (last_line c words)) → NoneRan (Stops (Some k) o.bytes words F) (Leaves (Some k)) o words run
none_ran o words k F c run stop disk is none_recovered no_entry no_end unwritten failed told = record {
  stop = subst (Stops (Some k) o.bytes words F) (sym is) stop;
  no_record = none_recovered;
  no_entry = no_entry;
  no_end = no_end;
  unwritten = unwritten;
  disk = subst (λ d. DiskStops (Leaves (Some k)) o.as_medium (journal_bytes o words) d run.disk) (sym is) disk;
  failed = subst (λ d. LineFailed d run.faults) (sym is) failed;
  report = subst (λ d. IfSome run.held (λ b. Reported run.faults b [] (last_line d words))) (sym is) told;
}

-- for what a call says that stopped the run
pub stopped_so : {C S D : Type 0} (o : Outside S D) (words : List (List ℕ)) (k : Command) (source_faults : C → ℕ) (R : Type 0) (stop : Stop C S D) (source : Option C) (run : Handed S D)
    → Stops (Some k) o.bytes words (R ⊎ IsSomeAnd stop.halt.source (λ s. 0 < source_faults s)) stop.halt.code → DiskStops (Leaves (Some k)) o.as_medium (journal_bytes o words) stop.halt.code stop.disk → run.code ≡ stop.halt.code → source ≡ stop.halt.source
    → run.recovered ≡ [] → run.history ≡ [] → run.ends ≡ [] → All (IsUnwritten o.sink_held o.sink_faults) stop.sinks → run.sinks ≡ stop.sinks → run.disk ≡ stop.disk → LineFailed stop.halt.code run.faults → IfSome run.held (λ b. Reported run.faults b [] (last_line stop.halt.code words))
    → NoneRan (Stops (Some k) o.bytes words (R ⊎ IsSomeAnd source (λ s. 0 < source_faults s))) (Leaves (Some k)) o words run
stopped_so {C} o words k source_faults R stop source run stops disk is from none_recovered no_entry no_end unwritten back there failed told =
    none_ran o words k (R ⊎ IsSomeAnd source (λ s. 0 < source_faults s)) stop.halt.code run (subst (λ (x : Option C). Stops (Some k) o.bytes words (R ⊎ IsSomeAnd x (λ s. 0 < source_faults s)) stop.halt.code) (sym from) stops)
    (subst (DiskStops (Leaves (Some k)) o.as_medium (journal_bytes o words) stop.halt.code) (sym there) disk) is none_recovered no_entry no_end (subst (All (IsUnwritten o.sink_held o.sink_faults)) (sym back) unwritten) failed told

-- ---- a script was run, or its session found no memory to begin

wants : (bytes : List ℕ → Option (List ℕ)) (words : List (List ℕ)) (F : Type 0) (d : ExitCode) → d ≡ code.NoMemory → Stops (Some Try) bytes words F d
wants bytes words F d is = subst (Stops (Some Try) bytes words F) (sym is) free
  where
    free : Stops (Some Try) bytes words F code.NoMemory
    free = tt

pub try_stops : (bytes : List ℕ → Option (List ℕ)) (words : List (List ℕ)) (F : Type 0) (c : ExitCode) → Fails bytes words 1 F c → Stops (Some Try) bytes words F c
try_stops bytes words F (code.HostFault w) f = (f.0, tt, f.1)
try_stops bytes words F (code.TooLong w) f = (f.0, tt, subst (IsLong bytes words) (sym f.0) f.1)
try_stops bytes words F code.NoMemory f = tt
try_stops bytes words F code.Done f = absurd f
try_stops bytes words F code.Usage f = absurd f
try_stops bytes words F code.DiskFault f = absurd f
try_stops bytes words F code.SinkFault f = absurd f
try_stops bytes words F (code.Damaged at) f = absurd f
try_stops bytes words F (code.BadOrder at) f = absurd f

pub tried : {S D : Type 0} (o : Outside S D) (F : Type 0) (script : List ℕ) (words : List (List ℕ)) (run : Handed S D) → WasRead o.bytes words 1 script → ScriptServed o script words run → Served (Some Try) o F words run
tried o F script words run read served =
    elim served [
      | inl none ↦ inl (none_by WantsMemory (Stops (Some Try) o.bytes words F) (Leaves (Some Try)) o words run (λ d is. wants o.bytes words F d is) none)
      | inr ran ↦ inr (record { script = script; is_script = read.is; short = read.short; ran = ran })
    ]
