-- What comes of opening what a word names.
use Rattle.std.specs.Prelude.{ℕ, ◌≡◌, ◌+◌, ◌<◌, ◌≤◌, ◌⊎◌, All, Bool, false, List, ◌∷◌, [], ◌++◌, length, map, Option, Some, None}
use Rattle.ebr_faults.specs.Faults.{one_more}
use Rattle.ebr_outside.specs.declared.host_call.HostCall.{HostCall}
use Rattle.ebr_server.specs.declared.exit.ExitCode.{ExitCode}
use Rattle.ebr_server.specs.declared.exit.ExitCode.TheVariants as code
use Rattle.ebr_words.specs.declared.words.Command.TheVariants as command
use Rattle.ebr_order.specs.Order.{turns_of, wrong_at}
use Rattle.ebr_base.specs.declared.numbers.SessionId.{SessionId}
use Rattle.ebr_worker.specs.Ends.{Job}
use Rattle.ebr_worker.specs.Runs.{IsUnwritten}
use Rattle.ebr_startup.specs.declared.why.OpenWhy.{OpenWhy}
use Rattle.ebr_startup.specs.declared.why.OpenWhy.TheVariants as why
use Rattle.ebr_outside.specs.Disk.{Medium}
use Rattle.ebr_record.specs.declared.record.Record.{Record}
use Rattle.ebr_dump.specs.Dump.{Dump}
use Rattle.ebr_server.specs.Disks.{DiskStops, Leaves, WasReadOff}
use Rattle.ebr_server.specs.Program.{AreJobs, Handed, IsBehind, IsLong, IsOrder, NoneRan, Outside, ScriptRan, ShortBetween, Step, Tells, call_of, code_of_lines, journal_place, most}

-- the calls, and then those of steps that came through, where they are told
abbrev pub with_steps : Option (List HostCall) → List Step → Option (List HostCall)
with_steps None steps = None
with_steps (Some calls) steps = Some (calls ++ map (call_of false) steps)

-- what was read
pub record WasRead (bytes : List ℕ → Option (List ℕ)) (words : List (List ℕ)) (at : ℕ) (text : List ℕ) : Type 0 where
  pub is : IsBehind bytes words at text
  pub short : length text ≤ most

-- why it wasn't read, or made
abbrev pub Fails : (List ℕ → Option (List ℕ)) → List (List ℕ) → ℕ → Type 0 → ExitCode → Type 0
Fails bytes words at fails (code.HostFault w) = (w ≡ at) × fails
Fails bytes words at fails (code.TooLong w) = (w ≡ at) × IsLong bytes words at
Fails bytes words at fails code.NoMemory = Unit {0}
Fails bytes words at fails c = ⊥

-- why the words from a place on weren't all read
abbrev pub FailsFrom : (List ℕ → Option (List ℕ)) → List (List ℕ) → ℕ → Type 0 → ExitCode → Type 0
FailsFrom bytes words first fails (code.HostFault w) = (first ≤ w) × (w < length words) × ShortBetween bytes words first w × fails
FailsFrom bytes words first fails (code.TooLong w) = (first ≤ w) × (w < length words) × ShortBetween bytes words first w × IsLong bytes words w
FailsFrom bytes words first fails code.NoMemory = Unit {0}
FailsFrom bytes words first fails c = ⊥

-- One more was read.
pub record ReadsMore (bytes : List ℕ → Option (List ℕ)) (words : List (List ℕ)) (at : ℕ) (old new : List (List ℕ)) : Type 0 where
  pub text : List ℕ
  pub read : WasRead bytes words at text
  pub added : new ≡ old ++ text ∷ []

-- why the sinks of the words from a place on weren't all made
abbrev pub MakesNone : List (List ℕ) → ℕ → Type 0 → ExitCode → Type 0
MakesNone words first fails (code.HostFault w) = (first ≤ w) × (w < length words) × fails
MakesNone words first fails code.NoMemory = Unit {0}
MakesNone words first fails c = ⊥

-- why the journal's disk wasn't opened
abbrev pub OpensNone : Type 0 → ExitCode → Type 0
OpensNone fails (code.HostFault w) = (w ≡ journal_place) × fails
OpensNone fails code.NoMemory = Unit {0}
OpensNone fails c = ⊥

-- the sinks of these words, in which nothing is written
pub record AreBack {S : Type 0} (word : S → List ℕ) (held : S → Option (List ℕ)) (faults : S → ℕ) (words : List (List ℕ)) (sinks : List S) : Type 0 where
  pub words_are : map word sinks ≡ words
  pub unwritten : All (IsUnwritten held faults) sinks

-- the turns of an order
pub record AreTurns (bytes : List ℕ → Option (List ℕ)) (words : List (List ℕ)) (n : ℕ) (turns : List SessionId) : Type 0 where
  pub order : List ℕ
  pub is_order : IsOrder bytes words n order
  pub turns_are : turns ≡ turns_of order

-- why an order of n sessions isn't read
abbrev pub OrderStops : ℕ → List ℕ → ExitCode → Type 0
OrderStops n order (code.BadOrder at) = wrong_at n order ≡ Some at
OrderStops n order code.NoMemory = Unit {0}
OrderStops n order c = ⊥

-- How many writes have failed behind a last line: none where there is no line, and one more at most.
abbrev pub LineFails : ExitCode → ℕ → ℕ → Type 0
LineFails code.Done old new = new ≡ old
LineFails c old new = (new ≡ old) ⊎ (new ≡ one_more old)

-- .. and behind replies, where there is none after a failed write either
abbrev pub RepliesFail : ExitCode → ℕ → ℕ → Type 0
RepliesFail code.SinkFault old new = new ≡ old
RepliesFail c old new = LineFails c old new

abbrev pub WantsMemory : ExitCode → Type 0
WantsMemory c = c ≡ code.NoMemory

-- A script was run, or its session found no memory to begin.
abbrev pub ScriptServed : {S D : Type 0} → Outside S D → List ℕ → List (List ℕ) → Handed S D → Type 0
ScriptServed o script words run = NoneRan WantsMemory (Leaves (Some command.Try)) o words run ⊎ ScriptRan script words run

-- The lines of a journal were written, or a write of them failed.
pub record LinesTold (words : List (List ℕ)) (lines : List ℕ) (c : ExitCode) (faults : ℕ) (held : Option (List ℕ)) : Type 0 where
  pub unwritten : Bool
  pub is_code : c ≡ code_of_lines unwritten
  pub tells : Tells words lines unwritten c faults held

-- The lines are those of records that were read off the disk.
pub record ReadsOff {D : Type 0} (as_medium : D → Medium) (told : Option (List ℕ)) (lines : List ℕ) (now : D) : Type 0 where
  pub records : List Record
  pub read : WasReadOff as_medium told records now
  pub lines_are : lines ≡ Dump records

-- A rehearsal whose order and scripts are read, and whose sessions have sinks.
pub record IsPrepared (bytes : List ℕ → Option (List ℕ)) (words : List (List ℕ)) (jobs : List Job) (turns : List SessionId) : Type 0 where
  pub are_jobs : AreJobs bytes words 3 jobs
  pub order : List ℕ
  pub is_order : IsOrder bytes words (length jobs) order
  pub turns_are : turns ≡ turns_of order

-- why no engine is opened over a disk, as a code, and what became of the disk
abbrev pub code_of_open : OpenWhy → ExitCode
code_of_open why.DiskFault = code.DiskFault
code_of_open (why.Damaged at) = code.Damaged at
code_of_open why.NoMemory = code.NoMemory

pub record StopsOver {D : Type 0} (Left : Medium → OpenWhy → Medium → Type 0) (as_medium : D → Medium) (told : Option (List ℕ)) (c : ExitCode) (disk : Option D) : Type 0 where
  pub cause : OpenWhy
  pub is_code : c ≡ code_of_open cause
  pub stays : DiskStops Left as_medium told c disk
