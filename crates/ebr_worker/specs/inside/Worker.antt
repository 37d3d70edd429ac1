-- What the parts of a turn do: the session goes on to its next ask, and takes the answer. Neither needs the engine.
use Rattle.std.specs.Prelude.{◌≡◌, ◌+◌, ◌<◌, ◌⊎◌, Bool, true, false, length, Option, Some, None, Result}
use Rattle.std.specs.Bool.{OnTrue}
use Rattle.ebr_base.specs.declared.clone_in.NoMemory as memory
use Rattle.ebr_worker.specs.declared.limits.TheConstants.{MAX_ASKS}
use Rattle.ebr_asks.specs.declared.ask.Ask.{Ask}
use Rattle.ebr_asks.specs.declared.ask.Ask.TheVariants as ask
use Rattle.ebr_asks.specs.declared.answer.Answer.{Answer}
use Rattle.ebr_asks.specs.declared.answer.Answer.TheVariants as answer
use Rattle.ebr_outside.specs.Sink.{faults_after}
use Rattle.ebr_report.specs.declared.ends.EndKind.{EndKind}
use Rattle.ebr_report.specs.declared.ends.EndKind.TheVariants as ending
use Rattle.ebr_calls.specs.Continuation.{AllContinue}
use Rattle.ebr_session.specs.declared.next.NextAsk.{NextAsk}
use Rattle.ebr_session.specs.Has.{Advances, Follows, IsFit, IsShort, Progress, answered, is_short}
use Rattle.ebr_session.specs.Transcripts.{IsPrefix, answers}
use Rattle.ebr_session.specs.Sessions.{Printed}
use Rattle.ebr_worker.specs.Paced.{has_ended}
use Rattle.ebr_worker.specs.Ends.{printed_before_last}
use Rattle.ebr_worker.specs.Work.{HasCome, Runs, Work, job_of}

-- ---- it goes on

-- The session went on, and nothing was written.
pub record Advanced (r : Result NextAsk memory.NoMemory) (old new : Work) : Type 0 where
  pub advances : Advances r old.session new.session
  pub follows : Follows new.session
  pub same : new ≡ record old { session = new.session }

-- More of what it printed was written, and all of it unless a write failed.
pub record Flushed (all : Bool) (old new : Work) : Type 0 where
  pub session : new.session ≡ old.session
  pub grown : IsPrefix old.written new.written
  pub part : IsPrefix new.written new.session.printed
  pub whole : OnTrue all (new.written ≡ new.session.printed)
  pub counted : new.faults ≡ faults_after all old.faults
  pub word : new.word ≡ old.word
  pub why : new.why ≡ old.why
  pub end : new.end ≡ old.end

-- with Leave out
abbrev pub with_leave : Progress → Progress
with_leave s = record s { out = Some ask.Leave }

-- It is to leave, and Leave is out now.
pub record LeavesNow (q : Ask) (old new : Work) : Type 0 where
  pub leave : q ≡ ask.Leave
  pub is : new ≡ record old { session = with_leave old.session }
  pub follows : Follows new.session

-- It has quit for this cause, and Leave is out.
abbrev pub having_quit : EndKind → Work → Work
having_quit why w = record w { session = record w.session { quit = Some (length w.session.transcript); out = Some ask.Leave }; why = Some why }

pub record Quits (why : EndKind) (q : Ask) (old new : Work) : Type 0 where
  pub leave : q ≡ ask.Leave
  pub is : new ≡ having_quit why old
  pub follows : Follows new.session

-- ---- an ask is out

-- It has quit. Of what its script prints for its answers this much is written at least, and at most.
pub record HasQuit (w : Work) : Type 0 where
  pub quit : w.session.quit ≡ Some (length w.session.transcript)
  pub went_on : AllContinue (answers w.session.transcript)
  pub most : IsPrefix w.written (Printed w.session.script (answers w.session.transcript))
  pub least : IsPrefix (printed_before_last w.session.script (answers w.session.transcript)) w.written

-- all that it had printed is written
pub record HasQuitWhole (w : Work) : Type 0 where
  pub quit : HasQuit w
  pub whole : w.written ≡ printed_before_last w.session.script (answers w.session.transcript)

-- It leaves since it was answered that there is no memory.
pub record IsLeaving (w : Work) : Type 0 where
  pub no_quit : w.session.quit ≡ None
  pub short : IsShort w.session.transcript
  pub written : w.written ≡ w.session.printed

-- It runs, and all that it printed is written.
pub record GoesOn (w : Work) : Type 0 where
  pub no_quit : w.session.quit ≡ None
  pub went_on : AllContinue (answers w.session.transcript)
  pub written : w.written ≡ w.session.printed
  pub unfailed : w.faults ≡ 0
  pub few : length w.session.transcript + 1 < MAX_ASKS

-- by why it leaves
abbrev pub AsksBy : Option EndKind → Ask → Work → Type 0
AsksBy None q w = GoesOn w
AsksBy (Some ending.NoMemory) q w = (q ≡ ask.Leave) × (w.faults ≡ 0) × (HasQuitWhole w ⊎ IsLeaving w)
AsksBy (Some ending.SinkFault) q w = (q ≡ ask.Leave) × (w.faults ≡ 1) × HasQuit w
AsksBy (Some ending.Ended) q w = ⊥
AsksBy (Some ending.Stopped) q w = ⊥

-- This ask is out.
pub record Asks (q : Ask) (w : Work) : Type 0 where
  pub goes_on : w.session.ended ≡ false
  pub out : w.session.out ≡ Some q
  pub follows : Follows w.session
  pub not_over : has_ended w.session.transcript ≡ false
  pub few : length w.session.transcript < MAX_ASKS
  pub fit : IsFit q
  pub short : is_short w.session.transcript ≡ true → q ≡ ask.Leave
  pub by : AsksBy w.why q w
  pub no_end : w.end ≡ None

-- The session has come to this ask.
pub record HasGoneOn (q : Ask) (old new : Work) : Type 0 where
  pub asks : Asks q new
  pub session : new.session.session ≡ old.session.session
  pub job : job_of new ≡ job_of old
  pub transcript : new.session.transcript ≡ old.session.transcript

-- ---- its answer

-- how a session ends that an answer ends, and that leaves for no other cause
abbrev pub end_of : Answer → EndKind
end_of answer.DiskFault = ending.Stopped
end_of answer.NoMemory = ending.NoMemory
end_of answer.Stopped = ending.Stopped
end_of x = ending.Ended

abbrev pub end_by : Option EndKind → Answer → EndKind
end_by None x = end_of x
end_by (Some why) x = why

-- why it leaves, behind an answer
abbrev pub why_by : Option EndKind → Answer → Option EndKind
why_by None answer.NoMemory = Some ending.NoMemory
why_by why x = why

abbrev pub if_ended : Bool → EndKind → Option EndKind
if_ended true k = Some k
if_ended false k = None

-- It took an answer.
abbrev pub settled : Answer → Work → Work
settled x w = record w { session = answered w.session.out x w.session; why = why_by w.why x; end = if_ended (answered w.session.out x w.session).ended (end_by w.why x) }

pub record Settles (x : Answer) (old new : Work) : Type 0 where
  pub is : new ≡ settled x old
  pub follows : Follows new.session

-- The session runs, or has ended so.
abbrev pub IsBy : Option EndKind → Work → Type 0
IsBy None w = Runs w
IsBy (Some k) w = HasCome k w
