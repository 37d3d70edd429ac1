-- What each code says of a command, by what it has come to.
use Rattle.std.proofs.Common.{ℕ, zero, suc, ◌≡◌, ◌==◌, ◌+◌, ◌-◌, ◌<◌, ◌≤◌, ◌⊎◌, inl, inr, Bool, true, false, ◌||◌, if◌then◌else◌, IsTrue, List, [], ◌∷◌, length, get_or, Option, Some, None, arith, refl, sym, ◌∙◌, ap, subst}
use Rattle.std.specs.Prelude.{◌↔◌, IfSome, IsSome, IsSomeAnd, map, slice_get}
use Rattle.std.proofs.lemmas.Bool.Decides.{leb_tells}
use Rattle.std.proofs.lemmas.Option.{slice_get-get_or, slice_get_within}
use Rattle.std.proofs.lemmas.List.{length-map}
use Rattle.std.proofs.lemmas.List.Elements.{All-cons, All-nil}
use Rattle.ebr_faults.specs.Faults.{Rises}
use Rattle.ebr_outside.specs.Disk.{Medium}
use Rattle.ebr_words.specs.declared.words.Command.{Command}
use Rattle.ebr_words.specs.declared.words.Command.TheVariants.{Dump, Rehearse, Run, Try}
use Rattle.ebr_order.specs.Order.{wrong_at}
use Rattle.ebr_report.specs.declared.ends.EndKind.{EndKind}
use Rattle.ebr_report.specs.declared.ends.EndKind.TheVariants as ending
use Rattle.ebr_report.specs.declared.ends.SessionEnd.{SessionEnd}
use Rattle.ebr_asks.specs.declared.entry.Entry.{Entry}
use Rattle.ebr_record.specs.declared.record.Record.{Record}
use Rattle.ebr_startup.specs.Damage.{HasDatabase, IsDamagedAt}
use Rattle.ebr_startup.specs.declared.why.OpenWhy.{OpenWhy}
use Rattle.ebr_startup.specs.declared.why.OpenWhy.TheVariants as why
use Rattle.ebr_worker.specs.Ends.{failed_writes}
use Rattle.ebr_worker.specs.Matches.{has_fault}
use Rattle.ebr_worker.specs.Ends.{Job}
use Rattle.ebr_worker.specs.Runs.{AreEnds}
use Rattle.ebr_server.specs.declared.exit.ExitCode.{ExitCode}
use Rattle.ebr_server.specs.declared.exit.ExitCode.TheVariants as code
use Rattle.ebr_server.specs.Disks.{DiskStops, IsEntry, Leaves}
use Rattle.ebr_server.specs.Program.{AllEnded, AllRight, DiskFails, EndsTold, Handed, IsComplete, IsLegal, IsLong, IsShort, IsSinkStop, LineFailed, Opens, OpensJournal, OrderWrong, Outside, Ran, Reads, RightBefore, Served, SessionsRan, ShortBetween, SinkFailed, SinkFails, Stops, StopsBad, StopsBy, StopsDamaged, any_end, code_of_ends, code_of_lines, fault_at, journal_bytes, most, order_place, outside, sessions_of, sink_failed, told_at, turn_of, wants_memory}
use Rattle.ebr_server.specs.inside.Opened.{LinesTold, ScriptServed}
use Rattle.ebr_server.proofs.InWords.{Told, fails_since, short_between, short_told}
use Rattle.ebr_server.proofs.Serving.{none_by}

abbrev nothing : Unit {0}
nothing = tt

-- ---- codes of sessions that have ended

abbrev pub HasRun : ExitCode → Type 0
HasRun code.Done = Unit {0}
HasRun code.DiskFault = Unit {0}
HasRun code.SinkFault = Unit {0}
HasRun code.NoMemory = Unit {0}
HasRun c = ⊥

by_tests : (f a b : Bool) → HasRun (if f then code.DiskFault else (if a then code.NoMemory else (if b then code.SinkFault else code.Done)))
by_tests true a b = tt
by_tests false true b = tt
by_tests false false true = tt
by_tests false false false = tt

has_run : {S : Type 0} (h : List Entry) (ends : List (SessionEnd S)) (q : Bool) (c : ExitCode) → c ≡ code_of_ends h ends q → HasRun c
has_run h ends q c is = subst HasRun (sym is) (by_tests (has_fault h) (any_end wants_memory ends) (any_end sink_failed ends || q))

-- lines that were written or not
lines_run : (q : Bool) (c : ExitCode) → c ≡ code_of_lines q → HasRun c
lines_run q c is = subst HasRun (sym is) (by q)
  where
    by : (b : Bool) → HasRun (code_of_lines b)
    by true = tt
    by false = tt

-- .. none of which is a host fault
run_faultless : (c : ExitCode) → HasRun c → fault_at c ≡ None
run_faultless code.Done run = refl
run_faultless code.DiskFault run = refl
run_faultless code.SinkFault run = refl
run_faultless code.NoMemory run = refl
run_faultless code.Usage run = absurd run
run_faultless (code.HostFault w) run = absurd run
run_faultless (code.BadOrder at) run = absurd run
run_faultless (code.TooLong w) run = absurd run
run_faultless (code.Damaged at) run = absurd run

pub ends_faultless : {S : Type 0} (words : List (List ℕ)) (h : List Entry) (c : ExitCode) (ends : List (SessionEnd S)) (faults : ℕ) (held : Option (List ℕ)) → EndsTold words h c ends faults held → fault_at c ≡ None
ends_faultless words h c ends faults held told = run_faultless c (has_run h ends told.unwritten c told.is_code)

pub lines_faultless : (words : List (List ℕ)) (lines : List ℕ) (c : ExitCode) (faults : ℕ) (held : Option (List ℕ)) → LinesTold words lines c faults held → fault_at c ≡ None
lines_faultless words lines c faults held told = run_faultless c (lines_run told.unwritten c told.is_code)

pub script_faultless : {S D : Type 0} (o : Outside S D) (script : List ℕ) (words : List (List ℕ)) (run : Handed S D) → ScriptServed o script words run → fault_at run.code ≡ None
script_faultless o script words run served = elim served [ inl none ↦ ap fault_at none.stop | inr ran ↦ run_faultless run.code (has_run run.history run.ends false run.code ran.is_code) ]

abbrev IsEnded : {S : Type 0} → SessionEnd S → Type 0
IsEnded e = e.end ≡ ending.Ended

is_done : (f a b : Bool) → code.Done ≡ (if f then code.DiskFault else (if a then code.NoMemory else (if b then code.SinkFault else code.Done))) → (a ≡ false) × (b ≡ false)
is_done true a b is = absurd cc
is_done false true b is = absurd cc
is_done false false true is = absurd cc
is_done false false false is = (refl, refl)

neither : (a b : Bool) → (a || b) ≡ false → (a ≡ false) × (b ≡ false)
neither true b is = absurd cc
neither false b is = (refl, is)

ended_kind : (k : EndKind) → wants_memory k ≡ false → sink_failed k ≡ false → k ≡ ending.Ended
ended_kind ending.Ended memory sink = refl
ended_kind ending.SinkFault memory sink = absurd cc
ended_kind ending.Stopped memory sink = absurd cc
ended_kind ending.NoMemory memory sink = absurd cc

all_ended : {S : Type 0} (ends : List (SessionEnd S)) → any_end wants_memory ends ≡ false → any_end sink_failed ends ≡ false → AllEnded ends
all_ended [] memory sink = All-nil IsEnded
all_ended (e ∷ ends) memory sink =
    let m = neither (wants_memory e.end) (any_end wants_memory ends) memory in
    let s = neither (sink_failed e.end) (any_end sink_failed ends) sink in
    All-cons IsEnded e ends (ended_kind e.end m.0 s.0) (all_ended ends m.1 s.1)

done_ended : {S : Type 0} (h : List Entry) (ends : List (SessionEnd S)) (q : Bool) (c : ExitCode) → c ≡ code_of_ends h ends q → c ≡ code.Done → AllEnded ends
done_ended h ends q c by is =
    let tests = is_done (has_fault h) (any_end wants_memory ends) (any_end sink_failed ends || q) (sym is ∙ by) in
    all_ended ends tests.0 (neither (any_end sink_failed ends) q tests.1).0

is_sink_fault : (f a b : Bool) → code.SinkFault ≡ (if f then code.DiskFault else (if a then code.NoMemory else (if b then code.SinkFault else code.Done))) → b ≡ true
is_sink_fault true a b is = absurd cc
is_sink_fault false true b is = absurd cc
is_sink_fault false false true is = refl
is_sink_fault false false false is = absurd cc

is_disk_fault : (f a b : Bool) → code.DiskFault ≡ (if f then code.DiskFault else (if a then code.NoMemory else (if b then code.SinkFault else code.Done))) → f ≡ true
is_disk_fault true a b is = refl
is_disk_fault false true b is = absurd cc
is_disk_fault false false true is = absurd cc
is_disk_fault false false false is = absurd cc

lines_end : (q : Bool) → (code.Done ≡ code_of_lines q → q ≡ false) × (code.SinkFault ≡ code_of_lines q → q ≡ true) × (code.DiskFault ≡ code_of_lines q → ⊥)
lines_end true = (λ e. absurd cc, λ e. refl, λ e. cc)
lines_end false = (λ e. refl, λ e. absurd cc, λ e. cc)

one_of : (a b : Bool) → (a || b) ≡ true → (a ≡ true) ⊎ (b ≡ true)
one_of true b is = inl refl
one_of false b is = inr is

failed_kind : (k : EndKind) → sink_failed k ≡ true → k ≡ ending.SinkFault
failed_kind ending.SinkFault is = refl
failed_kind ending.Ended is = absurd cc
failed_kind ending.Stopped is = absurd cc
failed_kind ending.NoMemory is = absurd cc

sink_kind : (k : EndKind) → 0 < failed_writes k → sink_failed k ≡ true
sink_kind ending.SinkFault some = refl
sink_kind ending.Ended some = absurd (omega (arith, some))
sink_kind ending.Stopped some = absurd (omega (arith, some))
sink_kind ending.NoMemory some = absurd (omega (arith, some))

any_there : (a b : Bool) → (a ≡ true) ⊎ (b ≡ true) → (a || b) ≡ true
any_there true b which = refl
any_there false b which = elim which [ inl is ↦ absurd cc | inr is ↦ is ]

any_at : {S : Type 0} (p : EndKind → Bool) (ends : List (SessionEnd S)) (i : ℕ) (e : SessionEnd S) → slice_get ends i ≡ Some e → p e.end ≡ true → any_end p ends ≡ true
any_at p [] i e there so = absurd cc
any_at p (x ∷ ends) zero e there so =
    let same : x ≡ e = cc in
    any_there (p x.end) (any_end p ends) (inl (ap (λ y. p y.end) same ∙ so))
any_at p (x ∷ ends) (suc i) e there so = any_there (p x.end) (any_end p ends) (inr (any_at p ends i e there so))

stops_so : (f a b q : Bool) → b ≡ true → IsSinkStop (if f then code.DiskFault else (if a then code.NoMemory else (if b || q then code.SinkFault else code.Done)))
stops_so true a b q is = tt
stops_so false true b q is = tt
stops_so false false true q is = tt
stops_so false false false q is = absurd cc

-- one of the sessions ended so
pub record OneEnded {S : Type 0} (p : EndKind → Bool) (ends : List (SessionEnd S)) : Type 0 where
  pub place : ℕ
  pub end : SessionEnd S
  pub is_end : slice_get ends place ≡ Some end
  pub so : p end.end ≡ true

behind_one : {S : Type 0} (p : EndKind → Bool) (e : SessionEnd S) (ends : List (SessionEnd S)) → OneEnded p ends → OneEnded p (e ∷ ends)
behind_one p e ends one = record { place = suc one.place; end = one.end; is_end = one.is_end; so = one.so }

which_ended : {S : Type 0} (p : EndKind → Bool) (ends : List (SessionEnd S)) → any_end p ends ≡ true → OneEnded p ends
which_ended p [] is = absurd cc
which_ended p (e ∷ ends) is =
    elim (one_of (p e.end) (any_end p ends) is) [
      | inl here ↦ record { place = 0; end = e; is_end = refl; so = here }
      | inr later ↦ behind_one p e ends (which_ended p ends later)
    ]

-- ---- the journal that was opened

-- The bytes of the disk, where they are told, are those of a database.
pub record HasEntered {D : Type 0} (as_medium : D → Medium) (told : Option (List ℕ)) : Type 0 where
  pub entry : D
  pub records : List Record
  pub is_entry : IsEntry as_medium told entry
  pub has : IsTrue (as_medium entry).tells → HasDatabase (as_medium entry).reads records

-- what is so of the bytes that a disk was opened with is so of those that are told
of_entry : {D : Type 0} (as_medium : D → Medium) (told : Option (List ℕ)) (entry : D) (P : List ℕ → Type 0) → IsEntry as_medium told entry → (IsTrue (as_medium entry).tells → P (as_medium entry).reads) → IfSome told P
of_entry as_medium None entry P is by = tt
of_entry as_medium (Some bytes) entry P is by = subst P is.holds.reads (by is.holds.tells)

not_damaged : {D : Type 0} (law : (bytes : List ℕ) (records : List Record) (at : ℕ) → HasDatabase bytes records → IsDamagedAt bytes at → ⊥) (as_medium : D → Medium) (told : Option (List ℕ)) → HasEntered as_medium told → IfSome told (λ bytes. (at : ℕ) → IsDamagedAt bytes at → ⊥)
not_damaged law as_medium told e = of_entry as_medium told e.entry (λ bytes. (at : ℕ) → IsDamagedAt bytes at → ⊥) e.is_entry (λ tells at damaged. law (as_medium e.entry).reads e.records at (e.has tells) damaged)

-- ---- a run is stopped, or its sessions have run and what it read is right

pub record RanRight {S D : Type 0} (k : Command) (o : Outside S D) (words : List (List ℕ)) (run : Handed S D) : Type 0 where
  pub has_run : HasRun run.code
  pub legal : IsLegal run.recovered (sessions_of k words) run.history
  pub short : (v : ℕ) → Reads (Some k) words v → IsShort o.bytes words v
  pub order : k ≡ Rehearse → OrderWrong o.bytes words None
  pub sink : run.code ≡ code.SinkFault → SinkFails (Some k) o.sink_faults run.ends run.faults
  pub sink_stops : SinkFailed o.sink_faults run.ends → IsSinkStop run.code
  pub disk : run.code ≡ code.DiskFault → DiskFails o.as_medium run.disk
  pub line_failed : LineFailed run.code run.faults
  pub done : run.code ≡ code.Done → AllEnded run.ends
  pub entered : OpensJournal (Some k) → HasEntered o.as_medium (journal_bytes o words)

lone_end : {S : Type 0} (ends : List (SessionEnd S)) (e : SessionEnd S) (place : ℕ) (x : SessionEnd S) → ends ≡ e ∷ [] → slice_get ends place ≡ Some x → x ≡ e
lone_end ends e place x one is = at (subst (λ es. slice_get es place ≡ Some x) one is)
  where
    at_place : (p : ℕ) → slice_get (e ∷ []) p ≡ Some x → x ≡ e
    at_place zero there = cc
    at_place (suc p) there = absurd cc

    at : slice_get (e ∷ []) place ≡ Some x → x ≡ e
    at there = at_place place there

positive : (n : ℕ) → n ≡ 1 → 0 < n
positive n one = omega (arith, one)

-- the sink of a session that it ended has failed
by_end : {X : Type 0} (o : Option X) (faults : X → ℕ) (k : EndKind) → IfSome o (λ s. faults s ≡ failed_writes k) → k ≡ ending.SinkFault → IfSome o (λ s. 0 < faults s)
by_end None faults k counted is = tt
by_end (Some s) faults k counted is = positive (faults s) (counted ∙ ap failed_writes is)

-- .. and one that has failed ended it
end_by : {X : Type 0} (o : Option X) (faults : X → ℕ) (k : EndKind) → IfSome o (λ s. faults s ≡ failed_writes k) → IsSomeAnd o (λ s. 0 < faults s) → sink_failed k ≡ true
end_by None faults k counted failed = absurd failed
end_by (Some s) faults k counted failed = sink_kind k (subst (λ n. 0 < n) counted failed)

some_and : {X : Type 0} (o : Option X) (P : X → Type 0) → IsSome o → IfSome o P → IsSomeAnd o P
some_and None P some holds = absurd cc
some_and (Some x) P some holds = holds

no_job : Job
no_job = record { script = []; word = [] }

failed_sink : {S : Type 0} (held : S → Option (List ℕ)) (sink_faults : S → ℕ) (word : S → List ℕ) (jobs : List Job) (h : List Entry) (ends : List (SessionEnd S)) → AreEnds held sink_faults word jobs h ends → OneEnded sink_failed ends → SinkFailed sink_faults ends
failed_sink held sink_faults word jobs h ends are one =
    let within : one.place < length ends = slice_get_within ends one.place one.end one.is_end in
    let there : slice_get jobs one.place ≡ Some (get_or jobs one.place no_job) = slice_get-get_or jobs one.place no_job (omega (arith, within, are.count)) in
    record {
      place = one.place;
      end = one.end;
      is_end = one.is_end;
      failed = some_and one.end.sink (λ s. 0 < sink_faults s) (are.sinks one.place one.end one.is_end) (by_end one.end.sink sink_faults one.end.end (are.each one.place _ one.end there one.is_end).failed (failed_kind one.end.end one.so));
    }

-- A sink that failed stops the run.
sink_ends : {S : Type 0} (held : S → Option (List ℕ)) (sink_faults : S → ℕ) (word : S → List ℕ) (jobs : List Job) (h : List Entry) (ends : List (SessionEnd S)) → AreEnds held sink_faults word jobs h ends → SinkFailed sink_faults ends → any_end sink_failed ends ≡ true
sink_ends held sink_faults word jobs h ends are one =
    let within : one.place < length ends = slice_get_within ends one.place one.end one.is_end in
    let there : slice_get jobs one.place ≡ Some (get_or jobs one.place no_job) = slice_get-get_or jobs one.place no_job (omega (arith, within, are.count)) in
    any_at sink_failed ends one.place one.end one.is_end (end_by one.end.sink sink_faults one.end.end (are.each one.place _ one.end there one.is_end).failed one.failed)

-- the sessions of scripts have run
module _ {S D : Type 0} (o : Outside S D) (words : List (List ℕ)) (first : ℕ) (run : Handed S D) (now : D) (disk_is : run.disk ≡ Some now) (ran : SessionsRan o words first run.recovered run.history run.ends now) (summed : EndsTold words run.history run.code run.ends run.faults run.held) where
  by_sink : (any_end sink_failed run.ends ≡ true) ⊎ (summed.unwritten ≡ true) → (0 < run.faults) ⊎ SinkFailed o.sink_faults run.ends
  by_sink which =
      elim which [
        | inl some ↦ inr (failed_sink o.sink_held o.sink_faults o.sink_word ran.jobs run.history run.ends ran.are_ends (which_ended sink_failed run.ends some))
        | inr unwritten ↦ inl (positive run.faults (summed.tells.failed unwritten))
      ]

  as_many : length ran.jobs ≡ length words - first
  as_many = omega (arith, ran.are_jobs.scripts.count, length-map ran.jobs (λ (j : Job). j.script))

  sessions_right : (k : Command) → length words - first ≡ sessions_of k words → ((v : ℕ) → Reads (Some k) words v → IsShort o.bytes words v) → (k ≡ Rehearse → OrderWrong o.bytes words None)
      → ((0 < run.faults) ⊎ SinkFailed o.sink_faults run.ends → SinkFails (Some k) o.sink_faults run.ends run.faults) → RanRight k o words run
  sessions_right k count short order fails = record {
    has_run = has_run run.history run.ends summed.unwritten run.code summed.is_code;
    legal = subst (λ n. IsLegal run.recovered n run.history) (as_many ∙ count) ran.legal;
    short = short;
    order = order;
    sink = λ is. fails (by_sink
        (one_of (any_end sink_failed run.ends) summed.unwritten
        (is_sink_fault (has_fault run.history) (any_end wants_memory run.ends) (any_end sink_failed run.ends || summed.unwritten) (sym is ∙ summed.is_code))));
    sink_stops = λ one. subst IsSinkStop (sym summed.is_code)
        (stops_so (has_fault run.history) (any_end wants_memory run.ends) (any_end sink_failed run.ends) summed.unwritten
        (sink_ends o.sink_held o.sink_faults o.sink_word ran.jobs run.history run.ends ran.are_ends one));
    disk = λ is. subst (DiskFails o.as_medium) (sym disk_is)
        (ran.disk.failed (is_disk_fault (has_fault run.history) (any_end wants_memory run.ends) (any_end sink_failed run.ends || summed.unwritten) (sym is ∙ summed.is_code)));
    line_failed = summed.tells.line_failed;
    done = λ is. done_ended run.history run.ends summed.unwritten run.code summed.is_code is;
    entered = λ opens. record { entry = ran.disk.entry; records = run.recovered; is_entry = ran.disk.is_entry; has = ran.disk.recovers };
  }

ran_right : {S D : Type 0} (k : Command) (o : Outside S D) (words : List (List ℕ)) (run : Handed S D) → Ran (Some k) o words run → RanRight k o words run
ran_right {S} Try o words run r = record {
  has_run = has_run run.history run.ends false run.code r.ran.is_code;
  legal = subst (λ l. IsLegal l 1 run.history) (sym r.ran.no_record) r.ran.legal;
  short = λ v is. subst (IsShort o.bytes words) (sym is) (short_told (told_at o.bytes words 1) r.script r.is_script r.short);
  order = λ other. absurd cc;
  sink = λ is. positive run.faults (r.ran.failed (failed is));
  sink_stops = λ one. absurd (no_sink one.end.sink (ap (λ (e : SessionEnd S). e.sink) (lone_end run.ends r.ran.end one.place one.end r.ran.one one.is_end) ∙ r.ran.no_sink) one.failed);
  disk = λ is. absurd (both r.ran.no_fault (is_disk_fault (has_fault run.history) (any_end wants_memory run.ends) (any_end sink_failed run.ends || false) (sym is ∙ r.ran.is_code)));
  line_failed = r.ran.line_failed;
  done = λ is. done_ended run.history run.ends false run.code r.ran.is_code is;
  entered = λ opens. absurd opens;
}
  where
    both : has_fault run.history ≡ false → has_fault run.history ≡ true → ⊥
    both none fault = cc

    no_sink : (x : Option S) → x ≡ None → IsSomeAnd x (λ s. 0 < o.sink_faults s) → ⊥
    no_sink None none failed = failed
    no_sink (Some s) none failed = absurd cc

    failed : run.code ≡ code.SinkFault → r.ran.end.end ≡ ending.SinkFault
    failed is =
        let any : (any_end sink_failed run.ends || false) ≡ true = is_sink_fault (has_fault run.history) (any_end wants_memory run.ends) (any_end sink_failed run.ends || false) (sym is ∙ r.ran.is_code) in
        let one : OneEnded sink_failed run.ends = elim (one_of (any_end sink_failed run.ends) false any) [ inl some ↦ which_ended sink_failed run.ends some | inr none ↦ absurd cc ] in
        ap (λ e. e.end) (sym (lone_end run.ends r.ran.end one.place one.end r.ran.one one.is_end)) ∙ failed_kind one.end.end one.so
ran_right Run o words run r = sessions_right o words 2 run r.now r.disk_is r.ran r.summed Run refl (λ v opens. short_between o.bytes words 2 (length words) (map (λ (j : Job). j.script) r.ran.jobs) r.ran.are_jobs.scripts v opens.0 opens.1) (λ other. absurd cc) (λ failed. failed)
ran_right Rehearse o words run r = sessions_right o words 3 run r.now r.disk_is r.ran.ran r.summed Rehearse refl (λ v opens. at_word v opens.1 (from_order v (v - 2) (omega (arith, opens.0)))) (λ same. order_right (told_at o.bytes words order_place) r.ran.is_order.is) (λ failed. failed)
  where
    sessions : length r.ran.ran.jobs ≡ length words - 3
    sessions = omega (arith, r.ran.ran.are_jobs.scripts.count, length-map r.ran.ran.jobs (λ (j : Job). j.script))

    from_order : (v j : ℕ) → v ≡ 2 + j → (v ≡ 2) ⊎ (3 ≤ v)
    from_order v zero is = inl is
    from_order v (suc j) is = inr (omega (arith, is))

    at_word : (v : ℕ) → v < length words → (v ≡ 2) ⊎ (3 ≤ v) → IsShort o.bytes words v
    at_word v below there =
        elim there [
          | inl is ↦ subst (IsShort o.bytes words) (sym is) (short_told (told_at o.bytes words 2) r.ran.order r.ran.is_order.is r.ran.is_order.short)
          | inr behind ↦ short_between o.bytes words 3 (length words) (map (λ (j : Job). j.script) r.ran.ran.jobs) r.ran.ran.are_jobs.scripts v behind below
        ]

    order_right : (told : Option (List ℕ)) → IfSome told (λ b. r.ran.order ≡ b) → IfSome told (λ b. wrong_at (length words - 3) b ≡ None)
    order_right None is = tt
    order_right (Some b) is = subst (λ x. wrong_at (length words - 3) x ≡ None) is (subst (λ n. wrong_at n r.ran.order ≡ None) sessions r.ran.is_order.right)
ran_right {S} Dump o words run r = record {
  has_run = lines_run r.unwritten run.code r.is_code;
  legal = subst (λ h. IsLegal run.recovered 0 h) (sym r.no_entry) nothing;
  short = λ v is. absurd is;
  order = λ other. absurd cc;
  sink = λ is. positive run.faults (r.tells.failed ((lines_end r.unwritten).1 (sym is ∙ r.is_code)));
  sink_stops = λ one. absurd (no_end one);
  disk = λ is. absurd ((lines_end r.unwritten).2 (sym is ∙ r.is_code));
  line_failed = r.tells.line_failed;
  done = λ is. subst (λ (es : List (SessionEnd S)). AllEnded es) (sym r.no_end) (All-nil IsEnded);
  entered = λ opens. record { entry = r.disk.entry; records = r.records; is_entry = r.disk.is_entry; has = r.disk.has };
}
  where
    no_end : SinkFailed o.sink_faults run.ends → ⊥
    no_end one = nowhere (subst (λ es. slice_get es one.place ≡ Some one.end) r.no_end one.is_end)
      where
        nowhere : slice_get [] one.place ≡ Some one.end → ⊥
        nowhere there = cc

-- ---- what follows

-- the two cases, of a command
abbrev pub Come : {S D : Type 0} → Command → Outside S D → Type 0 → List (List ℕ) → Handed S D → Type 0
Come k o fails words run = ((run.history ≡ []) × Stops (Some k) o.bytes words fails run.code × DiskStops (Leaves (Some k)) o.as_medium (journal_bytes o words) run.code run.disk) ⊎ RanRight k o words run

come : {S D : Type 0} (k : Command) (o : Outside S D) (fails : Type 0) (words : List (List ℕ)) (run : Handed S D) → Served (Some k) o fails words run → Come k o fails words run
come k o fails words run served = elim served [ inl none ↦ inl (none.no_entry, none.stop, none.disk) | inr ran ↦ inr (ran_right k o words run ran) ]

empty_legal : (recovered : List Record) (n : ℕ) (h : List Entry) → h ≡ [] → IsLegal recovered n h
empty_legal recovered n h none = subst (IsLegal recovered n) (sym none) nothing

le_or_less : (v w : ℕ) → (v ≤ w) ⊎ (w < v)
le_or_less v w = elim (leb_tells v w) [ inl at_most ↦ inl at_most.1 | inr more ↦ inr more.1 ]

-- facts of what is told
short_never : (told : Option (List ℕ)) (P : Type 0) → IfSome told (λ b. length b ≤ most) → IfSome told (λ b. most < length b → P)
short_never None P short = tt
short_never (Some b) P short = λ long. absurd (omega (arith, short, long))

always : (told : Option (List ℕ)) (P : Type 0) → P → IfSome told (λ b. most < length b → P)
always None P p = tt
always (Some b) P p = λ long. p

right_never : (told : Option (List ℕ)) (n : ℕ) (c : ExitCode) → IfSome told (λ b. wrong_at n b ≡ None) → IfSome told (λ b. StopsBad (wrong_at n b) c)
right_never None n c right = tt
right_never (Some b) n c right = subst (λ o. StopsBad o c) (sym right) nothing

for_all : (told : Option (List ℕ)) (n : ℕ) (c : ExitCode) → ((o : Option ℕ) → StopsBad o c) → IfSome told (λ b. StopsBad (wrong_at n b) c)
for_all None n c by = tt
for_all (Some b) n c by = by (wrong_at n b)

found_there : (told : Option (List ℕ)) (n at : ℕ) → IfSome told (λ b. wrong_at n b ≡ Some at) → IfSome told (λ b. StopsBad (wrong_at n b) (code.BadOrder at))
found_there None n at wrong = tt
found_there (Some b) n at wrong = subst (λ o. StopsBad o (code.BadOrder at)) (sym wrong) here
  where
    here : at ≡ at
    here = refl

not_long : (told : Option (List ℕ)) → IfSome told (λ b. most < length b) → IsSomeAnd told (λ b. length b ≤ most) → ⊥
not_long None long short = short
not_long (Some b) long short = omega (arith, long, short)

not_wrong : (told : Option (List ℕ)) (n at : ℕ) → IfSome told (λ b. wrong_at n b ≡ Some at) → IsSomeAnd told (λ b. wrong_at n b ≡ None) → ⊥
not_wrong None n at wrong right = right
not_wrong (Some b) n at wrong right = some_none (sym wrong ∙ right)
  where
    some_none : Some at ≡ None → ⊥
    some_none e = cc

bad_host : (o : Option ℕ) (v : ℕ) → v ≡ 2 → StopsBad o (code.HostFault v)
bad_host None v is = tt
bad_host (Some p) v is = is

bad_long : (o : Option ℕ) (v : ℕ) → v ≡ 2 → StopsBad o (code.TooLong v)
bad_long None v is = tt
bad_long (Some p) v is = is

bad_memory : (o : Option ℕ) → StopsBad o code.NoMemory
bad_memory None = tt
bad_memory (Some p) = tt

not_one : (v : ℕ) → (v == 1) ≡ false → v ≡ 1 → ⊥
not_one v is e =
    let h : (1 == 1) ≡ false = sym (ap (λ x. x == 1) e) ∙ is in
    cc

-- what stops a command, by the code
module _ (bytes : Told) (words : List (List ℕ)) (fails : Type 0) where
  abbrev StopsOf : Command → ExitCode → Type 0
  StopsOf k d = Stops (Some k) bytes words fails d

  at_host : (k : Command) (w : ℕ) → StopsOf k (code.HostFault w) → Opens (Some k) words w × RightBefore k bytes words (turn_of k words w) × fails
  at_host Try w s = s
  at_host Dump w s = s
  at_host Run w s = s
  at_host Rehearse w s = s

  at_long : (k : Command) (w : ℕ) → StopsOf k (code.TooLong w) → Reads (Some k) words w × RightBefore k bytes words w × IsLong bytes words w
  at_long Try w s = s
  at_long Dump w s = s
  at_long Run w s = s
  at_long Rehearse w s = s

  at_bad : (k : Command) (at : ℕ) → StopsOf k (code.BadOrder at) → (k ≡ Rehearse) × IsShort bytes words order_place × OrderWrong bytes words (Some at)
  at_bad Try at s = absurd s
  at_bad Dump at s = absurd s
  at_bad Run at s = absurd s
  at_bad Rehearse at s = (refl, s.0, s.1)

  at_damage : (k : Command) (at : ℕ) → StopsOf k (code.Damaged at) → OpensJournal (Some k)
  at_damage Try at s = absurd s
  at_damage Dump at s = tt
  at_damage Run at s = tt
  at_damage Rehearse at s = tt

  no_done : (k : Command) → StopsOf k code.Done → ⊥
  no_done Try s = s
  no_done Dump s = s
  no_done Run s = s
  no_done Rehearse s = s

  no_usage : (k : Command) → StopsOf k code.Usage → ⊥
  no_usage Try s = s
  no_usage Dump s = s
  no_usage Run s = s
  no_usage Rehearse s = s

  no_sink_fault : (k : Command) → StopsOf k code.SinkFault → ⊥
  no_sink_fault Try s = s
  no_sink_fault Dump s = s
  no_sink_fault Run s = s
  no_sink_fault Rehearse s = s

  usage_alone : (d : ExitCode) → Stops None bytes words fails d → d ≡ code.Usage
  usage_alone code.Usage s = refl
  usage_alone code.Done s = absurd s
  usage_alone (code.HostFault w) s = absurd s
  usage_alone code.DiskFault s = absurd s
  usage_alone code.SinkFault s = absurd s
  usage_alone (code.Damaged at) s = absurd s
  usage_alone code.NoMemory s = absurd s
  usage_alone (code.BadOrder at) s = absurd s
  usage_alone (code.TooLong w) s = absurd s

  place_before : (v w : ℕ) → 2 ≤ w → ShortBetween bytes words 2 v → IfSome (told_at bytes words w) (λ b. most < length b → v ≤ w)
  place_before v w from short =
      elim (le_or_less v w) [ inl at_most ↦ always (told_at bytes words w) (v ≤ w) at_most | inr less ↦ short_never (told_at bytes words w) (v ≤ w) (short w from less) ]

  behind_order : (w : ℕ) → order_place ≤ w → IsShort bytes words order_place → IfSome (told_at bytes words w) (λ b. most < length b → order_place < w)
  behind_order w from short =
      elim (le_or_less w order_place) [
        | inl at_most ↦ short_never (told_at bytes words w) (order_place < w) (subst (IsShort bytes words) (at_order at_most) short)
        | inr less ↦ always (told_at bytes words w) (order_place < w) less
      ]
    where
      at_order : w ≤ order_place → order_place ≡ w
      at_order at_most = omega (arith, at_most, from)

  same_place : (v w : ℕ) → v ≡ 1 → w ≡ 1 → v ≤ w
  same_place v w is there = omega (arith, is, there)

  -- what is read behind a turn isn't too long
  never_long : (w : ℕ) (P : Type 0) → 2 ≤ w → w < length words → ShortBetween bytes words 2 (length words) → IfSome (told_at bytes words w) (λ b. most < length b → P)
  never_long w P from below short = short_never (told_at bytes words w) P (short w from below)

  long_stops : (k : Command) (w : ℕ) (d : ExitCode) → Reads (Some k) words w → StopsOf k d → IfSome (told_at bytes words w) (λ b. most < length b → StopsBy k words w d)
  long_stops Try w (code.HostFault v) opens s = always (told_at bytes words w) (v ≤ w) (same_place v w s.0 opens)
  long_stops Try w (code.TooLong v) opens s = always (told_at bytes words w) (v ≤ w) (same_place v w s.0 opens)
  long_stops Dump w d opens s = absurd opens
  long_stops Run w (code.HostFault v) opens s = place_before (turn_of Run words v) w opens.0 s.1
  long_stops Run w (code.TooLong v) opens s = place_before v w opens.0 s.1
  long_stops Rehearse w (code.HostFault v) opens s = place_before (turn_of Rehearse words v) w opens.0 s.1.short
  long_stops Rehearse w (code.TooLong v) opens s = place_before v w opens.0 s.1.short
  long_stops Try w (code.BadOrder at) opens s = absurd s
  long_stops Run w (code.BadOrder at) opens s = absurd s
  long_stops Rehearse w (code.BadOrder at) opens s = behind_order w opens.0 s.0
  long_stops Try w (code.Damaged at) opens s = absurd s
  long_stops Run w (code.Damaged at) opens s = never_long w ⊥ opens.0 opens.1 s
  long_stops Rehearse w (code.Damaged at) opens s = never_long w ⊥ opens.0 opens.1 s.short
  long_stops Try w code.DiskFault opens s = absurd s
  long_stops Run w code.DiskFault opens s = never_long w ⊥ opens.0 opens.1 s
  long_stops Rehearse w code.DiskFault opens s = never_long w ⊥ opens.0 opens.1 s.short
  long_stops k w code.NoMemory opens s = always (told_at bytes words w) (Unit {0}) nothing
  long_stops k w code.Done opens s = absurd (no_done k s)
  long_stops k w code.Usage opens s = absurd (no_usage k s)
  long_stops k w code.SinkFault opens s = absurd (no_sink_fault k s)

  abbrev n : ℕ
  n = length words - 3

  at_two : (v : ℕ) → 2 ≤ v → v ≤ 2 → v ≡ 2
  at_two v from to = omega (arith, from, to)

  -- the turn of a word that comes no later than the order
  first_turn : (v : ℕ) → 1 ≤ v → v < length words → turn_of Rehearse words v ≤ 2 → 3 ≤ length words → v ≡ 2
  first_turn v from below to some = by (v == 1) refl to
    where
      by : (b : Bool) → (v == 1) ≡ b → (if b then length words else v) ≤ 2 → v ≡ 2
      by true is to = absurd (omega (arith, to, some))
      by false is to = other (not_one v is) to
        where
          other : (v ≡ 1 → ⊥) → v ≤ 2 → v ≡ 2
          other not_first to = elim (le_or_less v 1) [ inl small ↦ absurd (not_first (omega (arith, from, small))) | inr large ↦ omega (arith, large, to) ]

  bad_stops : 3 ≤ length words → (d : ExitCode) → StopsOf Rehearse d → IfSome (told_at bytes words order_place) (λ b. StopsBad (wrong_at n b) d)
  bad_stops some (code.HostFault v) s =
      elim (le_or_less (turn_of Rehearse words v) 2) [
        | inl at_most ↦ for_all (told_at bytes words order_place) n (code.HostFault v) (λ o. bad_host o v (first_turn v s.0.0 s.0.1 at_most some))
        | inr less ↦ right_never (told_at bytes words order_place) n (code.HostFault v) (s.1.order less)
      ]
  bad_stops some (code.TooLong v) s =
      elim (le_or_less v 2) [
        | inl at_most ↦ for_all (told_at bytes words order_place) n (code.TooLong v) (λ o. bad_long o v (at_two v s.0.0 at_most))
        | inr less ↦ right_never (told_at bytes words order_place) n (code.TooLong v) (s.1.order less)
      ]
  bad_stops some (code.Damaged at) s = right_never (told_at bytes words order_place) n (code.Damaged at) (s.order some)
  bad_stops some code.DiskFault s = right_never (told_at bytes words order_place) n code.DiskFault (s.order some)
  bad_stops some (code.BadOrder at) s = found_there (told_at bytes words order_place) n at s.1
  bad_stops some code.NoMemory s = for_all (told_at bytes words order_place) n code.NoMemory bad_memory
  bad_stops some code.Done s = absurd s
  bad_stops some code.Usage s = absurd s
  bad_stops some code.SinkFault s = absurd s

  right_order : (k : Command) (disks : Told) → k ≡ Rehearse → AllRight k bytes disks words → IsSomeAnd (told_at bytes words order_place) (λ b. wrong_at n b ≡ None)
  right_order Try disks is right = absurd cc
  right_order Dump disks is right = absurd cc
  right_order Run disks is right = absurd cc
  right_order Rehearse disks is right = right.order

  complete_stop : (k : Command) (disks : Told) (d : ExitCode) → AllRight k bytes disks words → (fails → ⊥) → (d ≡ code.DiskFault → ⊥) → ((at : ℕ) → d ≡ code.Damaged at → ⊥) → StopsOf k d → IsComplete d
  complete_stop k disks (code.HostFault v) right none no_disk sound s = absurd (none (at_host k v s).2)
  complete_stop k disks (code.TooLong v) right none no_disk sound s = absurd (not_long (told_at bytes words v) (at_long k v s).2 (right.texts v (at_long k v s).0))
  complete_stop k disks (code.BadOrder at) right none no_disk sound s = absurd (not_wrong (told_at bytes words order_place) n at (at_bad k at s).2 (right_order k disks (at_bad k at s).0 right))
  complete_stop k disks code.DiskFault right none no_disk sound s = absurd (no_disk refl)
  complete_stop k disks (code.Damaged at) right none no_disk sound s = absurd (sound at refl)
  complete_stop k disks code.NoMemory right none no_disk sound s = tt
  complete_stop k disks code.Done right none no_disk sound s = absurd (no_done k s)
  complete_stop k disks code.Usage right none no_disk sound s = absurd (no_usage k s)
  complete_stop k disks code.SinkFault right none no_disk sound s = absurd (no_sink_fault k s)

complete_ran : (d : ExitCode) → HasRun d → (d ≡ code.SinkFault → ⊥) → (d ≡ code.DiskFault → ⊥) → IsComplete d
complete_ran code.Done ran none no_disk = tt
complete_ran code.NoMemory ran none no_disk = tt
complete_ran code.SinkFault ran none no_disk = absurd (none refl)
complete_ran code.DiskFault ran none no_disk = absurd (no_disk refl)
complete_ran code.Usage ran none no_disk = absurd ran
complete_ran (code.HostFault w) ran none no_disk = absurd ran
complete_ran (code.BadOrder at) ran none no_disk = absurd ran
complete_ran (code.TooLong w) ran none no_disk = absurd ran
complete_ran (code.Damaged at) ran none no_disk = absurd ran

-- ---- a disk over which no engine was opened

-- one that failed
disk_failed : {D : Type 0} (Left : Medium → OpenWhy → Medium → Type 0) (as_medium : D → Medium) (told : Option (List ℕ)) (disk : Option D) → DiskStops Left as_medium told code.DiskFault disk → DiskFails as_medium disk
disk_failed Left as_medium told None stops = absurd stops
disk_failed Left as_medium told (Some d) stops = stops.failed refl

-- one that is damaged
damage_left : (k : Command) (old new : Medium) (at : ℕ) → Leaves (Some k) old (why.Damaged at) new → IsTrue old.tells → IsDamagedAt old.reads at
damage_left Try old new at left tells = (left.told tells).0
damage_left Dump old new at left tells = left.damaged tells at refl
damage_left Run old new at left tells = (left.told tells).0
damage_left Rehearse old new at left tells = (left.told tells).0

damage_told : {D : Type 0} (k : Command) (as_medium : D → Medium) (told : Option (List ℕ)) (at : ℕ) (disk : Option D) → DiskStops (Leaves (Some k)) as_medium told (code.Damaged at) disk → IfSome told (λ bytes. IsDamagedAt bytes at)
damage_told k as_medium told at None stops = absurd stops
damage_told k as_medium told at (Some d) stops = of_entry as_medium told stops.entry (λ bytes. IsDamagedAt bytes at) stops.is_entry (λ tells. damage_left k (as_medium stops.entry) (as_medium d) at stops.left tells)

sound_never : (told : Option (List ℕ)) (at : ℕ) → IfSome told (λ bytes. IsDamagedAt bytes at) → IsSomeAnd told (λ bytes. (at : ℕ) → IsDamagedAt bytes at → ⊥) → ⊥
sound_never None at damaged sound = sound
sound_never (Some bytes) at damaged sound = sound at damaged

never_fails : {D : Type 0} (as_medium : D → Medium) (disk : Option D) → DiskFails as_medium disk → IfSome disk (λ d. 0 < (as_medium d).faults → ⊥) → ⊥
never_fails as_medium None fails none = fails
never_fails as_medium (Some d) fails none = none fails

-- ---- the clauses

module _ {S D : Type 0} (o : Outside S D) (fails : Type 0) (words : List (List ℕ)) (run : Handed S D) where
  abbrev c : ExitCode
  c = run.code

  abbrev disk_told : Option (List ℕ)
  disk_told = journal_bytes o words

  abbrev By : Option Command → Type 0
  By asked = Served asked o fails words run

  none_asked : By None → c ≡ code.Usage
  none_asked served = elim served [ inl none ↦ usage_alone o.bytes words fails c none.stop | inr ran ↦ absurd ran ]

  some_asked : (k : Command) → By (Some k) → Come k o fails words run
  some_asked k served = come k o fails words run served

  stopped_by : (k : Command) (d : ExitCode) → (HasRun d → ⊥) → By (Some k) → c ≡ d → Stops (Some k) o.bytes words fails d × DiskStops (Leaves (Some k)) o.as_medium disk_told d run.disk
  stopped_by k d not_run served is =
      elim (some_asked k served) [
        | inl stops ↦ (subst (Stops (Some k) o.bytes words fails) is stops.1, subst (λ x. DiskStops (Leaves (Some k)) o.as_medium disk_told x run.disk) is stops.2)
        | inr ran ↦ absurd (not_run (subst HasRun is ran.has_run))
      ]

  pub legal : (asked : Option Command) → By asked → IfSome asked (λ k. IsLegal run.recovered (sessions_of k words) run.history)
  legal None served = tt
  legal (Some k) served = elim (some_asked k served) [ inl stops ↦ empty_legal run.recovered (sessions_of k words) run.history stops.0 | inr ran ↦ ran.legal ]

  pub usage : (asked : Option Command) → By asked → (c ≡ code.Usage) ↔ (asked ≡ None)
  usage None served = (λ is. refl, λ is. none_asked served)
  usage (Some k) served = (λ is. absurd (no_usage o.bytes words fails k (stopped_by k code.Usage (λ ran. ran) served is).0), λ is. absurd (some_none is))
    where
      some_none : Some k ≡ None → ⊥
      some_none e = cc

  other_code : (d : ExitCode) → (code.Usage ≡ d → ⊥) → By None → c ≡ d → ⊥
  other_code d other served is = other (sym (none_asked served) ∙ is)

  pub host_fault : (asked : Option Command) → By asked → (w : ℕ) → c ≡ code.HostFault w → Opens asked words w × fails
  host_fault None served w is = absurd (other_code (code.HostFault w) (λ e. absurd cc) served is)
  host_fault (Some k) served w is =
      let s = at_host o.bytes words fails k w (stopped_by k (code.HostFault w) (λ ran. ran) served is).0 in
      (s.0, s.2)

  pub too_long : (asked : Option Command) → By asked → (w : ℕ) → c ≡ code.TooLong w → Reads asked words w × IsLong o.bytes words w
  too_long None served w is = absurd (other_code (code.TooLong w) (λ e. absurd cc) served is)
  too_long (Some k) served w is =
      let s = at_long o.bytes words fails k w (stopped_by k (code.TooLong w) (λ ran. ran) served is).0 in
      (s.0, s.2)

  pub bad_order : (asked : Option Command) → By asked → (at : ℕ) → c ≡ code.BadOrder at → (asked ≡ Some Rehearse) × OrderWrong o.bytes words (Some at)
  bad_order None served at is = absurd (other_code (code.BadOrder at) (λ e. absurd cc) served is)
  bad_order (Some k) served at is =
      let s = at_bad o.bytes words fails k at (stopped_by k (code.BadOrder at) (λ ran. ran) served is).0 in
      (ap Some s.0, s.2)

  pub damaged : (asked : Option Command) → By asked → (at : ℕ) → c ≡ code.Damaged at → OpensJournal asked × IfSome disk_told (λ bytes. IsDamagedAt bytes at)
  damaged None served at is = absurd (other_code (code.Damaged at) (λ e. absurd cc) served is)
  damaged (Some k) served at is =
      let s = stopped_by k (code.Damaged at) (λ ran. ran) served is in
      (at_damage o.bytes words fails k at s.0, damage_told k o.as_medium disk_told at run.disk s.1)

  pub disk_fault : (asked : Option Command) → By asked → c ≡ code.DiskFault → DiskFails o.as_medium run.disk
  disk_fault None served is = absurd (other_code code.DiskFault (λ e. absurd cc) served is)
  disk_fault (Some k) served is =
      elim (some_asked k served) [
        | inl stops ↦ disk_failed (Leaves (Some k)) o.as_medium disk_told run.disk (subst (λ x. DiskStops (Leaves (Some k)) o.as_medium disk_told x run.disk) is stops.2)
        | inr ran ↦ ran.disk is
      ]

  pub sink_fault : (asked : Option Command) → By asked → c ≡ code.SinkFault → SinkFails asked o.sink_faults run.ends run.faults
  sink_fault None served is = absurd (other_code code.SinkFault (λ e. absurd cc) served is)
  sink_fault (Some k) served is =
      elim (some_asked k served) [ inl stops ↦ absurd (no_sink_fault o.bytes words fails k (subst (Stops (Some k) o.bytes words fails) is stops.1)) | inr ran ↦ ran.sink is ]

  no_end : run.ends ≡ [] → SinkFailed o.sink_faults run.ends → ⊥
  no_end none one = nowhere (subst (λ es. slice_get es one.place ≡ Some one.end) none one.is_end)
    where
      nowhere : slice_get [] one.place ≡ Some one.end → ⊥
      nowhere there = cc

  pub sink_stops : (asked : Option Command) → By asked → SinkFailed o.sink_faults run.ends → IsSinkStop c
  sink_stops None served one = elim served [ inl none ↦ absurd (no_end none.no_end one) | inr ran ↦ absurd ran ]
  sink_stops (Some k) served one = elim served [ inl none ↦ absurd (no_end none.no_end one) | inr ran ↦ (ran_right k o words run ran).sink_stops one ]

  pub done : (asked : Option Command) → By asked → c ≡ code.Done → AllEnded run.ends × (run.faults ≡ 0)
  done None served is = absurd (other_code code.Done (λ e. absurd cc) served is)
  done (Some k) served is =
      elim (some_asked k served) [
        | inl stops ↦ absurd (no_done o.bytes words fails k (subst (Stops (Some k) o.bytes words fails) is stops.1))
        | inr ran ↦ (ran.done is, subst (λ d. LineFailed d run.faults) is ran.line_failed)
      ]

  no_failed : (k : Command) → SinkFails (Some k) o.sink_faults run.ends run.faults → ((0 < run.faults) → ⊥) → (SinkFailed o.sink_faults run.ends → ⊥) → ⊥
  no_failed Try failed no_report no_sink = no_report failed
  no_failed Dump failed no_report no_sink = no_report failed
  no_failed Run failed no_report no_sink = elim failed [ inl told ↦ no_report told | inr sink ↦ no_sink sink ]
  no_failed Rehearse failed no_report no_sink = elim failed [ inl told ↦ no_report told | inr sink ↦ no_sink sink ]

  pub stops_long : (asked : Option Command) → By asked → (w : ℕ) → Reads asked words w → IfSome (told_at o.bytes words w) (λ b. most < length b → IfSome asked (λ k. StopsBy k words w c))
  stops_long None served w opens = absurd opens
  stops_long (Some k) served w opens =
      elim (some_asked k served) [
        | inl stops ↦ long_stops o.bytes words fails k w c opens stops.1
        | inr ran ↦ short_never (told_at o.bytes words w) (StopsBy k words w c) (ran.short w opens)
      ]

  order_stops : (k : Command) → 3 ≤ length words → By (Some k) → k ≡ Rehearse → IfSome (told_at o.bytes words order_place) (λ b. StopsBad (wrong_at (length words - 3) b) c)
  order_stops k some served is =
      elim (some_asked k served) [
        | inl stops ↦ bad_stops o.bytes words fails some c (subst (λ j. Stops (Some j) o.bytes words fails c) is stops.1)
        | inr ran ↦ right_never (told_at o.bytes words order_place) (length words - 3) c (ran.order is)
      ]

  pub stops_bad : (asked : Option Command) → (asked ≡ Some Rehearse → 3 ≤ length words) → By asked → asked ≡ Some Rehearse → IfSome (told_at o.bytes words order_place) (λ b. StopsBad (wrong_at (length words - 3) b) c)
  stops_bad None some served is = absurd (none_some is)
    where
      none_some : None ≡ Some Rehearse → ⊥
      none_some e = cc
  stops_bad (Some k) some served is = order_stops k (some is) served (same is)
    where
      same : Some k ≡ Some Rehearse → k ≡ Rehearse
      same e = cc

  -- a run whose journal was opened isn't one of a damaged one
  ran_stops : (d : ExitCode) (told : Option (List ℕ)) → IfSome told (λ bytes. (at : ℕ) → IsDamagedAt bytes at → ⊥) → IfSome told (λ bytes. (at : ℕ) → IsDamagedAt bytes at → StopsDamaged d)
  ran_stops d None sound = tt
  ran_stops d (Some bytes) sound = λ at is. absurd (sound at is)

  stop_stops : (k : Command) (d : ExitCode) → Stops (Some k) o.bytes words fails d → StopsDamaged d
  stop_stops k (code.HostFault w) s = tt
  stop_stops k (code.TooLong w) s = tt
  stop_stops k (code.BadOrder at) s = tt
  stop_stops k (code.Damaged at) s = tt
  stop_stops k code.DiskFault s = tt
  stop_stops k code.NoMemory s = tt
  stop_stops k code.Usage s = tt
  stop_stops k code.Done s = absurd (no_done o.bytes words fails k s)
  stop_stops k code.SinkFault s = absurd (no_sink_fault o.bytes words fails k s)

  always_stops : (told : Option (List ℕ)) (d : ExitCode) → StopsDamaged d → IfSome told (λ bytes. (at : ℕ) → IsDamagedAt bytes at → StopsDamaged d)
  always_stops None d s = tt
  always_stops (Some bytes) d s = λ at is. s

  pub stops_damaged : ((bytes : List ℕ) (records : List Record) (at : ℕ) → HasDatabase bytes records → IsDamagedAt bytes at → ⊥) → (asked : Option Command) → By asked → OpensJournal asked
      → IfSome disk_told (λ bytes. (at : ℕ) → IsDamagedAt bytes at → StopsDamaged c)
  stops_damaged law None served opens = absurd opens
  stops_damaged law (Some k) served opens =
      elim (some_asked k served) [
        | inl stops ↦ always_stops disk_told c (stop_stops k c stops.1)
        | inr ran ↦ ran_stops c disk_told (not_damaged law o.as_medium disk_told (ran.entered opens))
      ]

  journal_sound : (k : Command) → OpensJournal (Some k) → AllRight k o.bytes o.disks words → IsSomeAnd disk_told (λ bytes. (at : ℕ) → IsDamagedAt bytes at → ⊥)
  journal_sound Try opens right = absurd opens
  journal_sound Dump opens right = right.journal
  journal_sound Run opens right = right.journal
  journal_sound Rehearse opens right = right.journal

  pub complete : (asked : Option Command) → By asked
      → IfSome asked (λ k. AllRight k o.bytes o.disks words → (fails → ⊥) → IfSome run.disk (λ d. 0 < (o.as_medium d).faults → ⊥) → ((0 < run.faults) → ⊥) → (SinkFailed o.sink_faults run.ends → ⊥) → IsComplete c)
  complete None served = tt
  complete (Some k) served = λ right none no_disk no_report no_sink.
      let sound_disk : c ≡ code.DiskFault → ⊥ = λ is. never_fails o.as_medium run.disk (disk_fault (Some k) served is) no_disk in
      let sound_file : (at : ℕ) → c ≡ code.Damaged at → ⊥ =
      λ at is. (let d = damaged (Some k) served at is in sound_never disk_told at d.1 (journal_sound k d.0 right)) in
      elim (some_asked k served) [
        | inl stops ↦ complete_stop o.bytes words fails k o.disks c right none sound_disk sound_file stops.1
        | inr ran ↦ complete_ran c ran.has_run (λ is. no_failed k (ran.sink is) no_report no_sink) sound_disk
      ]

-- ---- the same causes, counted from an earlier moment on

stops_by : (bytes : Told) (words : List (List ℕ)) (F G : Type 0) → (F → G) → (asked : Option Command) (d : ExitCode) → Stops asked bytes words F d → Stops asked bytes words G d
stops_by bytes words F G by None code.Done s = absurd s
stops_by bytes words F G by None code.Usage s = tt
stops_by bytes words F G by None (code.HostFault w) s = absurd s
stops_by bytes words F G by None code.DiskFault s = absurd s
stops_by bytes words F G by None code.SinkFault s = absurd s
stops_by bytes words F G by None (code.Damaged w) s = absurd s
stops_by bytes words F G by None code.NoMemory s = absurd s
stops_by bytes words F G by None (code.BadOrder w) s = absurd s
stops_by bytes words F G by None (code.TooLong w) s = absurd s
stops_by bytes words F G by (Some Try) code.Done s = absurd s
stops_by bytes words F G by (Some Try) code.Usage s = absurd s
stops_by bytes words F G by (Some Try) (code.HostFault w) s = (s.0, s.1, by s.2)
stops_by bytes words F G by (Some Try) code.DiskFault s = absurd s
stops_by bytes words F G by (Some Try) code.SinkFault s = absurd s
stops_by bytes words F G by (Some Try) (code.Damaged w) s = absurd s
stops_by bytes words F G by (Some Try) code.NoMemory s = tt
stops_by bytes words F G by (Some Try) (code.BadOrder w) s = absurd s
stops_by bytes words F G by (Some Try) (code.TooLong w) s = s
stops_by bytes words F G by (Some Dump) code.Done s = absurd s
stops_by bytes words F G by (Some Dump) code.Usage s = absurd s
stops_by bytes words F G by (Some Dump) (code.HostFault w) s = (s.0, s.1, by s.2)
stops_by bytes words F G by (Some Dump) code.DiskFault s = tt
stops_by bytes words F G by (Some Dump) code.SinkFault s = absurd s
stops_by bytes words F G by (Some Dump) (code.Damaged w) s = tt
stops_by bytes words F G by (Some Dump) code.NoMemory s = tt
stops_by bytes words F G by (Some Dump) (code.BadOrder w) s = absurd s
stops_by bytes words F G by (Some Dump) (code.TooLong w) s = absurd s.0
stops_by bytes words F G by (Some Run) code.Done s = absurd s
stops_by bytes words F G by (Some Run) code.Usage s = absurd s
stops_by bytes words F G by (Some Run) (code.HostFault w) s = (s.0, s.1, by s.2)
stops_by bytes words F G by (Some Run) code.DiskFault s = s
stops_by bytes words F G by (Some Run) code.SinkFault s = absurd s
stops_by bytes words F G by (Some Run) (code.Damaged w) s = s
stops_by bytes words F G by (Some Run) code.NoMemory s = tt
stops_by bytes words F G by (Some Run) (code.BadOrder w) s = absurd s
stops_by bytes words F G by (Some Run) (code.TooLong w) s = s
stops_by bytes words F G by (Some Rehearse) code.Done s = absurd s
stops_by bytes words F G by (Some Rehearse) code.Usage s = absurd s
stops_by bytes words F G by (Some Rehearse) (code.HostFault w) s = (s.0, s.1, by s.2)
stops_by bytes words F G by (Some Rehearse) code.DiskFault s = s
stops_by bytes words F G by (Some Rehearse) code.SinkFault s = absurd s
stops_by bytes words F G by (Some Rehearse) (code.Damaged w) s = s
stops_by bytes words F G by (Some Rehearse) code.NoMemory s = tt
stops_by bytes words F G by (Some Rehearse) (code.BadOrder w) s = s
stops_by bytes words F G by (Some Rehearse) (code.TooLong w) s = s

module _ {S D : Type 0} (sink_word : S → List ℕ) (sink_held : S → Option (List ℕ)) (sink_faults : S → ℕ) (as_medium : D → Medium) (P : Type 0) (words : List (List ℕ)) (run : Handed S D) where
  abbrev telling : Told → Told → Outside S D
  telling bytes disks = outside bytes disks sink_word sink_held sink_faults as_medium

  counted_since : (bytes disks : Told) (asked : Option Command) (old mid new : ℕ) → old ≤ mid → Served asked (telling bytes disks) (Rises mid new ⊎ P) words run → Served asked (telling bytes disks) (Rises old new ⊎ P) words run
  counted_since bytes disks asked old mid new grown served =
      elim served [
        | inl none ↦ inl (none_by (Stops asked bytes words (Rises mid new ⊎ P)) (Stops asked bytes words (Rises old new ⊎ P)) (Leaves asked) (telling bytes disks) words run
            (λ d s. stops_by bytes words (Rises mid new ⊎ P) (Rises old new ⊎ P) (fails_since P old mid new grown) asked d s) none)
        | inr ran ↦ inr ran
      ]

  pub served_since : (bytes mid_bytes disks mid_disks : Told) (asked : Option Command) (old mid new : ℕ) → ((w : List ℕ) → mid_bytes w ≡ bytes w) → ((w : List ℕ) → mid_disks w ≡ disks w) → old ≤ mid
      → Served asked (telling mid_bytes mid_disks) (Rises mid new ⊎ P) words run → Served asked (telling bytes disks) (Rises old new ⊎ P) words run
  served_since bytes mid_bytes disks mid_disks asked old mid new same same_disks grown served =
      let is : mid_bytes ≡ bytes = λ i w. same w i in
      let are : mid_disks ≡ disks = λ i w. same_disks w i in
      counted_since bytes disks asked old mid new grown
      (subst (λ d. Served asked (telling bytes d) (Rises mid new ⊎ P) words run) are (subst (λ b. Served asked (telling b mid_disks) (Rises mid new ⊎ P) words run) is served))

no_fault : {C : Type 0} (source_faults : C → ℕ) (source : Option C) → IsSomeAnd source (λ s. 0 < source_faults s) → IfSome source (λ s. ¬ (0 < source_faults s)) → ⊥
no_fault source_faults None fault none = absurd fault
no_fault source_faults (Some s) fault none = none fault

-- where no call of the host or of its source has failed
no_fails : {C : Type 0} (source_faults : C → ℕ) (source : Option C) (old new : ℕ) → ¬ Rises old new → IfSome source (λ s. ¬ (0 < source_faults s)) → Rises old new ⊎ IsSomeAnd source (λ s. 0 < source_faults s) → ⊥
no_fails source_faults source old new no_rise no_source fails = elim fails [ inl rises ↦ no_rise rises | inr fault ↦ no_fault source_faults source fault no_source ]

pub complete_by : {C S D : Type 0} (source_faults : C → ℕ) (source : Option C) (old new : ℕ) (o : Outside S D) (words : List (List ℕ)) (run : Handed S D) (asked : Option Command)
    → IfSome asked (λ k. AllRight k o.bytes o.disks words → (Rises old new ⊎ IsSomeAnd source (λ s. 0 < source_faults s) → ⊥) → IfSome run.disk (λ d. 0 < (o.as_medium d).faults → ⊥) → ((0 < run.faults) → ⊥) → (SinkFailed o.sink_faults run.ends → ⊥) → IsComplete run.code)
    → IfSome asked (λ k. AllRight k o.bytes o.disks words → ¬ Rises old new → IfSome source (λ s. ¬ (0 < source_faults s)) → IfSome run.disk (λ d. ¬ (0 < (o.as_medium d).faults)) → ¬ (0 < run.faults) → ¬ SinkFailed o.sink_faults run.ends → IsComplete run.code)
complete_by source_faults source old new o words run None by = tt
complete_by source_faults source old new o words run (Some k) by =
    λ right no_rise no_source no_disk no_report no_sink. by right (no_fails source_faults source old new no_rise no_source) no_disk no_report no_sink
