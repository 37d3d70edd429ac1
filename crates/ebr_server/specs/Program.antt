-- The program: what it reads, what it writes last, and what it serves (own).
use Rattle.std.specs.Prelude.{ℕ, zero, suc, ◌≡◌, ◌==◌, ◌+◌, ◌-◌, ◌<◌, ◌≤◌, Bool, true, false, ◌||◌, if◌then◌else◌, List, [], ◌∷◌, ◌++◌, length, map, take, All, codes, Option, Some, None, IfSome, IsSomeAnd, slice_get, unwrap_or, ◌⊎◌}
use Rattle.std.specs.List.{list_any}
use Rattle.std.specs.Fmt.{decimal}
use Rattle.ebr_outside.specs.Disk.{Medium}
use Rattle.ebr_outside.specs.declared.host_call.HostCall.{HostCall}
use Rattle.ebr_outside.specs.declared.host_call.HostMethod.{HostMethod}
use Rattle.ebr_outside.specs.declared.host_call.HostMethod.TheVariants as method
use Rattle.ebr_words.specs.Words.{out_word}
use Rattle.ebr_words.specs.declared.words.Command.{Command}
use Rattle.ebr_words.specs.declared.words.Command.TheVariants as command
use Rattle.ebr_order.specs.Order.{turns_of, wrong_at}
use Rattle.ebr_report.specs.declared.ends.EndKind.{EndKind}
use Rattle.ebr_report.specs.declared.ends.EndKind.TheVariants as ending
use Rattle.ebr_report.specs.declared.ends.SessionEnd.{SessionEnd}
use Rattle.ebr_report.specs.Lines.{line_of}
use Rattle.ebr_report.specs.Summary.{Summary}
use Rattle.ebr_asks.specs.declared.entry.Entry.{Entry}
use Rattle.ebr_record.specs.declared.record.Record.{Record}
use Rattle.ebr_core.specs.History.{Legal}
use Rattle.ebr_core.specs.Machine.{Build}
use Rattle.ebr_dump.specs.Dump.{Dump}
use Rattle.ebr_startup.specs.Damage.{IsDamagedAt}
use Rattle.ebr_startup.specs.declared.why.OpenWhy.{OpenWhy}
use Rattle.ebr_worker.specs.Ends.{CameTo, Job}
use Rattle.ebr_worker.specs.Matches.{has_fault, has_stop}
use Rattle.ebr_worker.specs.Paced.{Paced}
use Rattle.ebr_worker.specs.Runs.{AreEnds, IsUnwritten, nth_session}
use Rattle.ebr_server.specs.declared.exit.ExitCode.{ExitCode}
use Rattle.ebr_server.specs.declared.exit.ExitCode.TheVariants as code
use Rattle.ebr_server.specs.Disks.{DiskStops, Leaves, RanOver, WasReadOff}

-- the word at a place
abbrev pub word_at : List (List ℕ) → ℕ → List ℕ
word_at words at = unwrap_or (slice_get words at) []

-- ---- what is read

-- the most bytes of a script, and of an order
abbrev pub most : ℕ
most = 1048576

-- the place of an order's word
abbrev pub order_place : ℕ
order_place = 2

-- the place of a journal's word
abbrev pub journal_place : ℕ
journal_place = 1

-- how many sessions there are, each with a script of its own
abbrev pub sessions_of : Command → List (List ℕ) → ℕ
sessions_of command.Try words = 1
sessions_of command.Dump words = 0
sessions_of command.Run words = length words - 2
sessions_of command.Rehearse words = length words - 3

-- The command reads the word at a place: `try` its script's, `run` each script's, `rehearse` its order's and each script's.
abbrev pub Reads : Option Command → List (List ℕ) → ℕ → Type 0
Reads None words at = ⊥
Reads (Some command.Try) words at = at ≡ 1
Reads (Some command.Dump) words at = ⊥
Reads (Some command.Run) words at = (2 ≤ at) × (at < length words)
Reads (Some command.Rehearse) words at = (order_place ≤ at) × (at < length words)

-- The command opens the word at a place: it reads it, or opens its disk.
abbrev pub Opens : Option Command → List (List ℕ) → ℕ → Type 0
Opens None words at = ⊥
Opens (Some command.Try) words at = at ≡ 1
Opens (Some command.Dump) words at = at ≡ journal_place
Opens (Some command.Run) words at = (journal_place ≤ at) × (at < length words)
Opens (Some command.Rehearse) words at = (journal_place ≤ at) × (at < length words)

-- When a word's turn comes: the words in their order, but a journal behind all others.
abbrev pub turn_of : Command → List (List ℕ) → ℕ → ℕ
turn_of command.Try words at = at
turn_of command.Dump words at = at
turn_of command.Run words at = if at == journal_place then length words else at
turn_of command.Rehearse words at = if at == journal_place then length words else at

-- the bytes behind the word at a place, where the host tells them
abbrev pub told_at : (List ℕ → Option (List ℕ)) → List (List ℕ) → ℕ → Option (List ℕ)
told_at bytes words at = bytes (word_at words at)

-- These are the bytes behind the word, where they are told; there are too many of them; there aren't.
abbrev pub IsBehind : (List ℕ → Option (List ℕ)) → List (List ℕ) → ℕ → List ℕ → Type 0
IsBehind bytes words at text = IfSome (told_at bytes words at) (λ told. text ≡ told)

abbrev pub IsLong : (List ℕ → Option (List ℕ)) → List (List ℕ) → ℕ → Type 0
IsLong bytes words at = IfSome (told_at bytes words at) (λ told. most < length told)

abbrev pub IsShort : (List ℕ → Option (List ℕ)) → List (List ℕ) → ℕ → Type 0
IsShort bytes words at = IfSome (told_at bytes words at) (λ told. length told ≤ most)

-- What is behind the words from one place up to another isn't too long, where it is told.
abbrev pub ShortBetween : (List ℕ → Option (List ℕ)) → List (List ℕ) → ℕ → ℕ → Type 0
ShortBetween bytes words first last = (v : ℕ) → first ≤ v → v < last → IsShort bytes words v

-- The order, where it is told, is wrong first at this place, or nowhere.
abbrev pub OrderWrong : (List ℕ → Option (List ℕ)) → List (List ℕ) → Option ℕ → Type 0
OrderWrong bytes words place = IfSome (told_at bytes words order_place) (λ told. wrong_at (sessions_of command.Rehearse words) told ≡ place)

-- All that `rehearse` reads before a turn is right. The scripts that `run` reads are right where they aren't too long; `try` reads one word
-- alone, and `dump` none.
pub record OrderBefore (bytes : List ℕ → Option (List ℕ)) (words : List (List ℕ)) (at : ℕ) : Type 0 where
  pub short : ShortBetween bytes words order_place at
  pub order : order_place < at → OrderWrong bytes words None

abbrev pub RightBefore : Command → (List ℕ → Option (List ℕ)) → List (List ℕ) → ℕ → Type 0
RightBefore command.Try bytes words at = Unit {0}
RightBefore command.Dump bytes words at = Unit {0}
RightBefore command.Run bytes words at = ShortBetween bytes words 2 at
RightBefore command.Rehearse bytes words at = OrderBefore bytes words at

-- all that a command reads is right
abbrev pub AllRead : Command → (List ℕ → Option (List ℕ)) → List (List ℕ) → Type 0
AllRead c bytes words = RightBefore c bytes words (length words)

-- ---- the order of work

-- One step: what the host is asked to open, of which word, and the place of the word that has the fault where it fails.
pub record Step : Type 0 where
  pub method : HostMethod
  pub word : List ℕ
  pub place : ℕ

-- the source of the word at a place
abbrev pub source_at : List (List ℕ) → ℕ → Step
source_at words at = record { method = method.Source; word = word_at words at; place = at }

-- the sink of the script whose word is at a place
abbrev pub sink_at : List (List ℕ) → ℕ → Step
sink_at words at = record { method = method.Sink; word = out_word (word_at words at); place = at }

-- the disk of the word at a place
abbrev pub disk_at : List (List ℕ) → ℕ → Step
disk_at words at = record { method = method.Disk; word = word_at words at; place = at }

-- a step at each of so many places, from one on
abbrev pub steps_from : (ℕ → Step) → ℕ → ℕ → List Step
steps_from step at zero = []
steps_from step at (suc n) = step at ∷ steps_from step (at + 1) n

-- the scripts of the words from a place on, and then a sink for each of them
abbrev pub scripts_and_sinks : List (List ℕ) → ℕ → List Step
scripts_and_sinks words first = steps_from (source_at words) first (length words - first) ++ steps_from (sink_at words) first (length words - first)

-- what `rehearse` opens in front of the disk
abbrev pub before_rehearsal : List (List ℕ) → List Step
before_rehearsal words = source_at words order_place ∷ scripts_and_sinks words 3

-- What a command opens, in this order: `try` its script; `run` the scripts, then a sink for each script, and then the journal's disk;
-- `rehearse` its order in front of these; `dump` the disk alone.
abbrev pub order_of_work : Option Command → List (List ℕ) → List Step
order_of_work None words = []
order_of_work (Some command.Try) words = source_at words 1 ∷ []
order_of_work (Some command.Dump) words = disk_at words journal_place ∷ []
order_of_work (Some command.Run) words = scripts_and_sinks words 2 ++ disk_at words journal_place ∷ []
order_of_work (Some command.Rehearse) words = before_rehearsal words ++ disk_at words journal_place ∷ []

-- the call of a step
abbrev pub call_of : Bool → Step → HostCall
call_of failed step = record { method = step.method; word = step.word; failed = failed }

-- the words of the sinks that steps make, in order
abbrev pub sinks_by : HostMethod → List ℕ → List (List ℕ) → List (List ℕ)
sinks_by method.Source word others = others
sinks_by method.Sink word others = word ∷ others
sinks_by method.Disk word others = others

abbrev pub sinks_of : List Step → List (List ℕ)
sinks_of [] = []
sinks_of (step ∷ steps) = sinks_by step.method step.word (sinks_of steps)

-- one of the steps opens a disk
abbrev pub is_disk : HostMethod → Bool
is_disk method.Source = false
is_disk method.Sink = false
is_disk method.Disk = true

abbrev pub opens_disk : List Step → Bool
opens_disk [] = false
opens_disk (step ∷ steps) = is_disk step.method || opens_disk steps

-- What was called behind the steps that came through: the next one, which failed, where a fault of its word is told, and else nothing.
abbrev pub LastFails : Option ℕ → List Step → List HostCall → Type 0
LastFails None left calls = calls ≡ []
LastFails (Some at) [] calls = ⊥
LastFails (Some at) (step ∷ left) calls = (step.place ≡ at) × (calls ≡ call_of true step ∷ [])

-- The calls go by the order of work: they are those of its first steps, each of which came through but for the last one where a fault is
-- told. All that they gave but sources is handed back: sinks of these words, and the disk.
pub record InOrder (work : List Step) (fault : Option ℕ) (sinks : List (List ℕ)) (disk : Bool) (calls : List HostCall) : Type 0 where
  pub done : List Step
  pub left : List Step
  pub work_is : work ≡ done ++ left
  pub last : List HostCall
  pub calls_are : calls ≡ map (call_of false) done ++ last
  pub last_fails : LastFails fault left last
  pub sinks_are : sinks ≡ sinks_of done
  pub disk_is : disk ≡ opens_disk done

-- the same of the calls between two moments, where they are told
abbrev pub CallsInOrder : Option (List HostCall) → Option (List HostCall) → List Step → Option ℕ → List (List ℕ) → Bool → Type 0
CallsInOrder None new work fault sinks disk = new ≡ None
CallsInOrder (Some old) new work fault sinks disk = (calls : List HostCall) × (new ≡ Some (old ++ calls)) × InOrder work fault sinks disk calls

abbrev pub fault_at : ExitCode → Option ℕ
fault_at (code.HostFault at) = Some at
fault_at c = None

-- the word of a sink, where there is one, in front of others
abbrev pub with_sink : {S : Type 0} → (S → List ℕ) → Option S → List (List ℕ) → List (List ℕ)
with_sink sink_word None others = others
with_sink sink_word (Some sink) others = sink_word sink ∷ others

-- the words of the sinks that sessions have ended with, and then those of sinks over which none ran
abbrev pub sinks_back : {S : Type 0} → (S → List ℕ) → List (SessionEnd S) → List S → List (List ℕ)
sinks_back sink_word [] sinks = map sink_word sinks
sinks_back sink_word (e ∷ ends) sinks = with_sink sink_word e.sink (sinks_back sink_word ends sinks)

-- the place of a host fault that no source has
abbrev pub own_fault : {C : Type 0} → ExitCode → Option C → Option ℕ
own_fault c None = fault_at c
own_fault c (Some source) = None

-- ---- what is written

-- The line that the report ends with.
abbrev pub last_line : ExitCode → List (List ℕ) → List ℕ
last_line code.Done words = []
last_line code.Usage words = line_of (codes "usage")
last_line (code.HostFault at) words = line_of (codes "host fault: " ++ word_at words at)
last_line code.DiskFault words = line_of (codes "disk fault")
last_line code.SinkFault words = line_of (codes "sink fault")
last_line (code.Damaged at) words = line_of (codes "damaged at " ++ decimal at)
last_line code.NoMemory words = line_of (codes "out of memory")
last_line (code.BadOrder at) words = line_of (codes "bad order at " ++ decimal at)
last_line (code.TooLong at) words = line_of (codes "too long: " ++ word_at words at)

-- The report has a text, and behind it a line: whole where no write failed, and else a part of it.
pub record Reported (faults : ℕ) (held text line : List ℕ) : Type 0 where
  pub count : ℕ
  pub part : held ≡ text ++ take count line
  pub whole : faults ≡ 0 → held ≡ text ++ line

-- How many writes of a report have failed, where the last line was the first to fail: none where there is no line, and one at most.
abbrev pub LineFailed : ExitCode → ℕ → Type 0
LineFailed code.Done faults = faults ≡ 0
LineFailed c faults = faults ≤ 1

-- The report has a part of a text, whose write failed, and nothing behind it.
pub record BrokenOff (held text : List ℕ) : Type 0 where
  pub count : ℕ
  pub part : held ≡ take count text

-- ---- what a run is given, and what it hands back

-- What the host tells of words: the bytes behind them, and those of their disks; and what is told of the sinks and the disks that it makes,
-- a sink's word first.
pub record Outside (S D : Type 0) : Type 1 where
  pub bytes : List ℕ → Option (List ℕ)
  pub disks : List ℕ → Option (List ℕ)
  pub sink_word : S → List ℕ
  pub sink_held : S → Option (List ℕ)
  pub sink_faults : S → ℕ
  pub as_medium : D → Medium

abbrev pub outside : {S D : Type 0} → (List ℕ → Option (List ℕ)) → (List ℕ → Option (List ℕ)) → (S → List ℕ) → (S → Option (List ℕ)) → (S → ℕ) → (D → Medium) → Outside S D
outside bytes disks sink_word sink_held sink_faults as_medium =
    record { bytes = bytes; disks = disks; sink_word = sink_word; sink_held = sink_held; sink_faults = sink_faults; as_medium = as_medium }

-- What is handed back: the code; the records with which the history began, the history, and what the sessions came to; the sinks over which
-- none ran; the disk; how many writes of the report have failed, and what it holds, where it tells.
pub record Handed (S D : Type 0) : Type 0 where
  pub code : ExitCode
  pub recovered : List Record
  pub history : List Entry
  pub ends : List (SessionEnd S)
  pub sinks : List S
  pub disk : Option D
  pub faults : ℕ
  pub held : Option (List ℕ)

-- the bytes of the journal's disk, where they are told
abbrev pub journal_bytes : {S D : Type 0} → Outside S D → List (List ℕ) → Option (List ℕ)
journal_bytes o words = o.disks (word_at words journal_place)

-- ---- runs whose sessions have not begun

-- Why a run ended before its sessions began: of a host or a source that failed, of a script or an order that is too long, of a wrong order,
-- or of a disk that failed or is damaged, all that is read before is right. Want of memory alone is free.
abbrev pub Stops : Option Command → (List ℕ → Option (List ℕ)) → List (List ℕ) → Type 0 → ExitCode → Type 0
Stops None bytes words fails code.Usage = Unit {0}
Stops (Some c) bytes words fails (code.HostFault at) = Opens (Some c) words at × RightBefore c bytes words (turn_of c words at) × fails
Stops (Some c) bytes words fails (code.TooLong at) = Reads (Some c) words at × RightBefore c bytes words at × IsLong bytes words at
Stops (Some command.Rehearse) bytes words fails (code.BadOrder at) = IsShort bytes words order_place × OrderWrong bytes words (Some at)
Stops (Some command.Run) bytes words fails (code.Damaged at) = AllRead command.Run bytes words
Stops (Some command.Run) bytes words fails code.DiskFault = AllRead command.Run bytes words
Stops (Some command.Rehearse) bytes words fails (code.Damaged at) = AllRead command.Rehearse bytes words
Stops (Some command.Rehearse) bytes words fails code.DiskFault = AllRead command.Rehearse bytes words
Stops (Some command.Dump) bytes words fails (code.Damaged at) = Unit {0}
Stops (Some command.Dump) bytes words fails code.DiskFault = Unit {0}
Stops (Some c) bytes words fails code.NoMemory = Unit {0}
Stops c bytes words fails x = ⊥

-- No session ran, and nothing is in a sink. What became of the disk goes by the code: it stays as it was, so that nothing is lost.
pub record NoneRan {S D : Type 0} (stops : ExitCode → Type 0) (Left : Medium → OpenWhy → Medium → Type 0) (o : Outside S D) (words : List (List ℕ)) (run : Handed S D) : Type 0 where
  pub stop : stops run.code
  pub no_record : run.recovered ≡ []
  pub no_entry : run.history ≡ []
  pub no_end : run.ends ≡ []
  pub unwritten : All (IsUnwritten o.sink_held o.sink_faults) run.sinks
  pub disk : DiskStops Left o.as_medium (journal_bytes o words) run.code run.disk
  pub failed : LineFailed run.code run.faults
  pub report : IfSome run.held (λ bytes. Reported run.faults bytes [] (last_line run.code words))

-- ---- runs whose sessions have ended

abbrev pub wants_memory : EndKind → Bool
wants_memory ending.NoMemory = true
wants_memory ending.Stopped = true
wants_memory k = false

abbrev pub sink_failed : EndKind → Bool
sink_failed ending.SinkFault = true
sink_failed k = false

abbrev pub any_end : {S : Type 0} → (EndKind → Bool) → List (SessionEnd S) → Bool
any_end {S = S} p ends = list_any (λ (e : SessionEnd S). p e.end) ends

-- The code of sessions that have ended, the first that applies: a disk that failed; want of memory, which stops other sessions too; a sink
-- that failed, or a report that wasn't written.
abbrev pub code_of_ends : {S : Type 0} → List Entry → List (SessionEnd S) → Bool → ExitCode
code_of_ends history ends unwritten =
    if has_fault history then code.DiskFault
    else (if any_end wants_memory ends then code.NoMemory else (if any_end sink_failed ends || unwritten then code.SinkFault else code.Done))

-- The line behind the replies of `try`: none where the report has failed.
abbrev pub behind_replies : ExitCode → List (List ℕ) → List ℕ
behind_replies code.SinkFault words = []
behind_replies c words = last_line c words

-- The history is legal from the database of these records, with so many sessions.
abbrev pub IsLegal : List Record → ℕ → List Entry → Type 0
IsLegal recovered n history = Legal (Build recovered n) history

-- A script was run as the one session of a database without records, which nothing keeps. The report is its sink: where that failed,
-- nothing was written behind it. Only where the session found no memory is an ask answered that the engine has stopped, its Leave.
pub record ScriptRan {S D : Type 0} (script : List ℕ) (words : List (List ℕ)) (run : Handed S D) : Type 0 where
  pub legal : IsLegal [] 1 run.history
  pub no_record : run.recovered ≡ []
  pub no_disk : run.disk ≡ None
  pub no_fault : has_fault run.history ≡ false
  pub end : SessionEnd S
  pub one : run.ends ≡ end ∷ []
  pub stop : has_stop run.history ≡ true → end.end ≡ ending.NoMemory
  pub no_sink : end.sink ≡ None
  pub replies : List ℕ
  pub came_to : CameTo run.history script (nth_session 0) replies end
  pub is_code : run.code ≡ code_of_ends run.history run.ends false
  pub failed : end.end ≡ ending.SinkFault → run.faults ≡ 1
  pub line_failed : LineFailed run.code run.faults
  pub report : IfSome run.held (λ b. Reported run.faults b replies (behind_replies run.code words))

-- what `try` has come to
pub record TryRan {S D : Type 0} (o : Outside S D) (words : List (List ℕ)) (run : Handed S D) : Type 0 where
  pub script : List ℕ
  pub is_script : IsBehind o.bytes words 1 script
  pub short : length script ≤ most
  pub ran : ScriptRan script words run

-- the scripts of the words from one place up to another, in order
pub record AreScripts (bytes : List ℕ → Option (List ℕ)) (words : List (List ℕ)) (first last : ℕ) (scripts : List (List ℕ)) : Type 0 where
  pub count : first + length scripts ≡ last
  pub each : (i : ℕ) (script : List ℕ) → slice_get scripts i ≡ Some script → IsBehind bytes words (first + i) script
  pub short : All (λ script. length script ≤ most) scripts

-- an order of n sessions
pub record IsOrder (bytes : List ℕ → Option (List ℕ)) (words : List (List ℕ)) (n : ℕ) (order : List ℕ) : Type 0 where
  pub is : IsBehind bytes words order_place order
  pub short : length order ≤ most
  pub right : wrong_at n order ≡ None

-- the words of the sinks of so many scripts, of which the first one's word is at a place
abbrev pub out_words : List (List ℕ) → ℕ → ℕ → List (List ℕ)
out_words words at n = sinks_of (steps_from (sink_at words) at n)

-- The scripts of the words from a place on are to be run, each with the sink that was made for its word.
pub record AreJobs (bytes : List ℕ → Option (List ℕ)) (words : List (List ℕ)) (first : ℕ) (jobs : List Job) : Type 0 where
  pub scripts : AreScripts bytes words first (length words) (map (λ (j : Job). j.script) jobs)
  pub sinks : map (λ (j : Job). j.word) jobs ≡ out_words words first (length words - first)

-- The scripts of the words from a place on were run, each as a session of its own with its own sink, in the database of the journal.
pub record SessionsRan {S D : Type 0} (o : Outside S D) (words : List (List ℕ)) (first : ℕ) (recovered : List Record) (history : List Entry) (ends : List (SessionEnd S)) (now : D) : Type 0 where
  pub jobs : List Job
  pub are_jobs : AreJobs o.bytes words first jobs
  pub legal : IsLegal recovered (length jobs) history
  pub are_ends : AreEnds o.sink_held o.sink_faults o.sink_word jobs history ends
  pub disk : RanOver o.as_medium (journal_bytes o words) (length jobs) recovered history now

-- .. by the order
pub record SessionsPaced {S D : Type 0} (o : Outside S D) (words : List (List ℕ)) (recovered : List Record) (history : List Entry) (ends : List (SessionEnd S)) (now : D) : Type 0 where
  pub ran : SessionsRan o words 3 recovered history ends now
  pub order : List ℕ
  pub is_order : IsOrder o.bytes words (length ran.jobs) order
  pub paced : Paced (length ran.jobs) (turns_of order) history

-- the text and the last line, by whether a write of the text failed
abbrev pub Summed : Bool → ℕ → List ℕ → List ℕ → List ℕ → Type 0
Summed true faults held text line = BrokenOff held text
Summed false faults held text line = Reported faults held text line

-- The report of a text and of the code's line. Where a write of the text failed, nothing was written behind it.
pub record Tells (words : List (List ℕ)) (text : List ℕ) (unwritten : Bool) (c : ExitCode) (faults : ℕ) (held : Option (List ℕ)) : Type 0 where
  pub failed : unwritten ≡ true → faults ≡ 1
  pub line_failed : LineFailed c faults
  pub report : IfSome held (λ b. Summed unwritten faults b text (last_line c words))

-- The code and the report of sessions that have ended.
pub record EndsTold {S : Type 0} (words : List (List ℕ)) (history : List Entry) (c : ExitCode) (ends : List (SessionEnd S)) (faults : ℕ) (held : Option (List ℕ)) : Type 0 where
  pub unwritten : Bool
  pub is_code : c ≡ code_of_ends history ends unwritten
  pub tells : Tells words (Summary ends) unwritten c faults held

-- what `run` has come to
pub record RunRan {S D : Type 0} (o : Outside S D) (words : List (List ℕ)) (run : Handed S D) : Type 0 where
  pub now : D
  pub disk_is : run.disk ≡ Some now
  pub ran : SessionsRan o words 2 run.recovered run.history run.ends now
  pub summed : EndsTold words run.history run.code run.ends run.faults run.held

-- what `rehearse` has come to
pub record RehearseRan {S D : Type 0} (o : Outside S D) (words : List (List ℕ)) (run : Handed S D) : Type 0 where
  pub now : D
  pub disk_is : run.disk ≡ Some now
  pub ran : SessionsPaced o words run.recovered run.history run.ends now
  pub summed : EndsTold words run.history run.code run.ends run.faults run.held

-- the code of lines that were written or not
abbrev pub code_of_lines : Bool → ExitCode
code_of_lines unwritten = if unwritten then code.SinkFault else code.Done

-- What `dump` has come to: the lines of the journal's records were written, and the disk is as it was.
pub record DumpRan {S D : Type 0} (o : Outside S D) (words : List (List ℕ)) (run : Handed S D) : Type 0 where
  pub no_record : run.recovered ≡ []
  pub no_entry : run.history ≡ []
  pub no_end : run.ends ≡ []
  pub now : D
  pub disk_is : run.disk ≡ Some now
  pub records : List Record
  pub disk : WasReadOff o.as_medium (journal_bytes o words) records now
  pub unwritten : Bool
  pub is_code : run.code ≡ code_of_lines unwritten
  pub tells : Tells words (Dump records) unwritten run.code run.faults run.held

-- ---- what `serve` comes to

abbrev pub Ran : {S D : Type 0} → Option Command → Outside S D → List (List ℕ) → Handed S D → Type 0
Ran None o words run = ⊥
Ran (Some command.Try) o words run = TryRan o words run
Ran (Some command.Run) o words run = RunRan o words run
Ran (Some command.Rehearse) o words run = RehearseRan o words run
Ran (Some command.Dump) o words run = DumpRan o words run

-- It ended before its sessions began, or came to what it is for. `fails` tells that a call of the host has failed, or one of the source
-- that is handed back.
abbrev pub Served : {S D : Type 0} → Option Command → Outside S D → Type 0 → List (List ℕ) → Handed S D → Type 0
Served asked o fails words run = NoneRan (Stops asked o.bytes words fails) (Leaves asked) o words run ⊎ Ran asked o words run

-- ---- what a code says

-- the code that a failed read of the source of a word has
abbrev pub IsReadFault : ExitCode → List (List ℕ) → List ℕ → Type 0
IsReadFault (code.HostFault at) words word = word ≡ word_at words at
IsReadFault c words word = ⊥

-- the sink of one of the sessions has failed
pub record SinkFailed {S : Type 0} (sink_faults : S → ℕ) (ends : List (SessionEnd S)) : Type 0 where
  pub place : ℕ
  pub end : SessionEnd S
  pub is_end : slice_get ends place ≡ Some end
  pub failed : IsSomeAnd end.sink (λ sink. 0 < sink_faults sink)

-- The sinks that fail with the code of a sink: the report, and in `run` and `rehearse` one of the sessions'.
abbrev pub SinkFails : {S : Type 0} → Option Command → (S → ℕ) → List (SessionEnd S) → ℕ → Type 0
SinkFails None sink_faults ends faults = ⊥
SinkFails (Some command.Try) sink_faults ends faults = 0 < faults
SinkFails (Some command.Dump) sink_faults ends faults = 0 < faults
SinkFails (Some command.Run) sink_faults ends faults = (0 < faults) ⊎ SinkFailed sink_faults ends
SinkFails (Some command.Rehearse) sink_faults ends faults = (0 < faults) ⊎ SinkFailed sink_faults ends

-- the codes of a run in which the sink of a session failed: a disk that failed and want of memory come before it
abbrev pub IsSinkStop : ExitCode → Type 0
IsSinkStop code.SinkFault = Unit {0}
IsSinkStop code.DiskFault = Unit {0}
IsSinkStop code.NoMemory = Unit {0}
IsSinkStop c = ⊥

-- the disk has failed; it hasn't
abbrev pub DiskFails : {D : Type 0} → (D → Medium) → Option D → Type 0
DiskFails as_medium disk = IsSomeAnd disk (λ d. 0 < (as_medium d).faults)

-- Each session ended as it should.
abbrev pub AllEnded : {S : Type 0} → List (SessionEnd S) → Type 0
AllEnded {S = S} ends = All (λ (e : SessionEnd S). e.end ≡ ending.Ended) ends

-- The codes that a word whose bytes are too many may have, and those that a wrong order may have: what is read before may have stopped
-- the run.
abbrev pub StopsBy : Command → List (List ℕ) → ℕ → ExitCode → Type 0
StopsBy c words at (code.TooLong w) = w ≤ at
StopsBy c words at (code.HostFault w) = turn_of c words w ≤ at
StopsBy c words at (code.BadOrder place) = order_place < at
StopsBy c words at code.NoMemory = Unit {0}
StopsBy c words at x = ⊥

abbrev pub StopsBad : Option ℕ → ExitCode → Type 0
StopsBad None c = Unit {0}
StopsBad (Some place) (code.BadOrder at) = at ≡ place
StopsBad (Some place) (code.HostFault w) = w ≡ order_place
StopsBad (Some place) (code.TooLong w) = w ≡ order_place
StopsBad (Some place) code.NoMemory = Unit {0}
StopsBad (Some place) c = ⊥

-- the command opens a journal
abbrev pub OpensJournal : Option Command → Type 0
OpensJournal None = ⊥
OpensJournal (Some command.Try) = ⊥
OpensJournal (Some command.Dump) = Unit {0}
OpensJournal (Some command.Run) = Unit {0}
OpensJournal (Some command.Rehearse) = Unit {0}

-- The codes of a run whose journal is damaged: what comes before may have stopped it.
abbrev pub StopsDamaged : ExitCode → Type 0
StopsDamaged code.Done = ⊥
StopsDamaged code.SinkFault = ⊥
StopsDamaged c = Unit {0}

-- the codes of a run in which nothing outside failed
abbrev pub IsComplete : ExitCode → Type 0
IsComplete code.Done = Unit {0}
IsComplete code.NoMemory = Unit {0}
IsComplete c = ⊥

-- What a command reads is told and right.
abbrev pub OrderTold : Command → (List ℕ → Option (List ℕ)) → List (List ℕ) → Type 0
OrderTold command.Try bytes words = Unit {0}
OrderTold command.Dump bytes words = Unit {0}
OrderTold command.Run bytes words = Unit {0}
OrderTold command.Rehearse bytes words = IsSomeAnd (told_at bytes words order_place) (λ told. wrong_at (sessions_of command.Rehearse words) told ≡ None)

-- the journal is told and not damaged
abbrev pub JournalSound : Command → Option (List ℕ) → Type 0
JournalSound command.Try disk = Unit {0}
JournalSound command.Dump disk = IsSomeAnd disk (λ bytes. (at : ℕ) → IsDamagedAt bytes at → ⊥)
JournalSound command.Run disk = IsSomeAnd disk (λ bytes. (at : ℕ) → IsDamagedAt bytes at → ⊥)
JournalSound command.Rehearse disk = IsSomeAnd disk (λ bytes. (at : ℕ) → IsDamagedAt bytes at → ⊥)

pub record AllRight (c : Command) (bytes disks : List ℕ → Option (List ℕ)) (words : List (List ℕ)) : Type 0 where
  pub texts : (at : ℕ) → Reads (Some c) words at → IsSomeAnd (told_at bytes words at) (λ told. length told ≤ most)
  pub order : OrderTold c bytes words
  pub journal : JournalSound c (told_at disks words journal_place)
