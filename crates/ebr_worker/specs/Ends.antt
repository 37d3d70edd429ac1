-- What the ends of sessions say.
use Rattle.std.specs.Prelude.{ℕ, ◌≡◌, ◌⊎◌, Bool, true, false, List, [], ◌∷◌, ◌++◌, length, map, Option, Some, None, IfSome}
use Rattle.std.specs.List.{count_by}
use Rattle.ebr_base.specs.declared.numbers.SessionId.{SessionId}
use Rattle.ebr_report.specs.declared.ends.EndKind.{EndKind}
use Rattle.ebr_report.specs.declared.ends.EndKind.TheVariants as ending
use Rattle.ebr_report.specs.declared.ends.SessionEnd.{SessionEnd}
use Rattle.ebr_asks.specs.declared.ask.Ask.{Ask}
use Rattle.ebr_asks.specs.declared.ask.Ask.TheVariants.{Leave}
use Rattle.ebr_asks.specs.declared.answer.Answer.{Answer}
use Rattle.ebr_asks.specs.declared.answer.Answer.TheVariants.{Done, Refused, DiskFault, NoMemory, Stopped}
use Rattle.ebr_asks.specs.declared.entry.Entry.{Entry}
use Rattle.ebr_asks.specs.declared.entry.Exchange.{Exchange}
use Rattle.ebr_calls.specs.Steps.{Ended}
use Rattle.ebr_calls.specs.Continuation.{AllContinue}
use Rattle.ebr_session.specs.Transcripts.{IsPrefix, answers, asks, printed_before}
use Rattle.ebr_session.specs.Sessions.{SessionRun, Printed}
use Rattle.ebr_core.specs.History.{Mine}
use Rattle.ebr_worker.specs.Matches.{as_recorded}

-- The asks of a session's exchanges are just those of its run for the answers that it was given, up to asks that were answered Stopped,
-- and this is what the run prints. With `quit` it quits after so many answers.
pub record Ran (script : List ℕ) (mine : List Exchange) (quit : Option ℕ) (printed : List ℕ) : Type 0 where
  pub transcript : List Exchange
  pub matches : mine ≡ map as_recorded transcript
  pub asked : (SessionRun script (answers mine) quit).state.asks ≡ asks transcript
  pub printed_is : (SessionRun script (answers mine) quit).state.printed ≡ printed
  pub ended : (SessionRun script (answers mine) quit).flow ≡ Ended

-- A session ran its script to its end: it went on after each answer before, its last one is Done, to Leave, and these are all its
-- replies.
pub record RanToEnd (script : List ℕ) (mine : List Exchange) (replies : List ℕ) : Type 0 where
  pub before : List Exchange
  pub last : mine ≡ before ++ record { ask = Leave; answer = Done } ∷ []
  pub went_on : AllContinue (answers before)
  pub ran : Ran script mine None replies

-- what a script prints for all answers but the last; nothing where there is none
abbrev pub printed_before_last : List ℕ → List Answer → List ℕ
printed_before_last script given = printed_before script given (length given)

-- the answers to Leave
abbrev pub AnswersLeave : Answer → Type 0
AnswersLeave Done = Unit {0}
AnswersLeave Stopped = Unit {0}
AnswersLeave x = ⊥

-- A session quit: it left in place of its next ask. Its replies are at most what its script prints for the answers that it was given
-- before Leave, and at least what it prints for all of them but the last.
pub record Quit (script : List ℕ) (mine : List Exchange) (replies : List ℕ) : Type 0 where
  pub before : List Exchange
  pub answer : Answer
  pub last : mine ≡ before ++ record { ask = Leave; answer = answer } ∷ []
  pub answers_leave : AnswersLeave answer
  pub went_on : AllContinue (answers before)
  pub ran : Ran script mine (Some (length before)) (Printed script (answers before))
  pub most : IsPrefix replies (Printed script (answers before))
  pub least : IsPrefix (printed_before_last script (answers before)) replies

-- A session quit, and none of its replies was cut short: they are just what its script prints for all the answers that it was given
-- before Leave but the last.
pub record QuitWhole (script : List ℕ) (mine : List Exchange) (replies : List ℕ) : Type 0 where
  pub quit : Quit script mine replies
  pub whole : replies ≡ printed_before_last script (answers quit.before)

-- A session was answered that there is no memory, and left. Its replies are all that it printed.
pub record RanShort (script : List ℕ) (mine : List Exchange) (replies : List ℕ) : Type 0 where
  pub before : List Exchange
  pub ask : Ask
  pub answer : Answer
  pub last : mine ≡ (before ++ record { ask = ask; answer = NoMemory } ∷ []) ++ record { ask = Leave; answer = answer } ∷ []
  pub answers_leave : AnswersLeave answer
  pub went_on : AllContinue (answers before)
  pub ran : Ran script mine None replies

-- A session was ended by its last answer. Its replies are all that it printed.
pub record RanOut (By : Answer → Type 0) (script : List ℕ) (mine : List Exchange) (replies : List ℕ) : Type 0 where
  pub before : List Exchange
  pub ask : Ask
  pub answer : Answer
  pub last : mine ≡ before ++ record { ask = ask; answer = answer } ∷ []
  pub went_on : AllContinue (answers before)
  pub by : By answer
  pub ran : Ran script mine None replies

abbrev pub StopsIt : Answer → Type 0
StopsIt DiskFault = Unit {0}
StopsIt Stopped = Unit {0}
StopsIt x = ⊥

-- What an end says of a session with these exchanges, of whose replies these were written.
abbrev pub Came : EndKind → List ℕ → List Exchange → List ℕ → Type 0
Came ending.Ended script mine replies = RanToEnd script mine replies
Came ending.SinkFault script mine replies = Quit script mine replies
Came ending.Stopped script mine replies = RanOut StopsIt script mine replies
Came ending.NoMemory script mine replies = QuitWhole script mine replies ⊎ RanShort script mine replies

abbrev pub refuses : Answer → Bool
refuses (Refused code steps lines) = true
refuses x = false

abbrev pub is_refused : Exchange → Bool
is_refused x = refuses x.answer

-- A script that is run as a session, and the word of the sink that its replies go to.
pub record Job : Type 0 where
  pub script : List ℕ
  pub word : List ℕ

-- What a session came to: its number, the counts of its asks, and how it ended, with these replies.
pub record CameTo {S : Type 0} (history : List Entry) (script : List ℕ) (session : SessionId) (replies : List ℕ) (e : SessionEnd S) : Type 0 where
  pub session_is : e.session ≡ session
  pub requests : e.requests ≡ length (Mine history session)
  pub refused : e.refused ≡ count_by is_refused (Mine history session)
  pub came : Came e.end script (Mine history session) replies

-- how many writes of a session's sink failed: one where that ended it, behind which there is no other
abbrev pub failed_writes : EndKind → ℕ
failed_writes ending.SinkFault = 1
failed_writes k = 0

-- The same with its sink, which is that of the job's word and holds the replies, where it tells. The sink failed exactly where that is the
-- end, at one write.
pub record IsEnd {S : Type 0} (held : S → Option (List ℕ)) (faults : S → ℕ) (word : S → List ℕ) (history : List Entry) (job : Job) (session : SessionId) (e : SessionEnd S) : Type 0 where
  pub replies : List ℕ
  pub came_to : CameTo history job.script session replies e
  pub asked : IfSome e.sink (λ sink. word sink ≡ job.word)
  pub holds : IfSome e.sink (λ sink. IfSome (held sink) (λ bytes. bytes ≡ replies))
  pub failed : IfSome e.sink (λ sink. faults sink ≡ failed_writes e.end)
