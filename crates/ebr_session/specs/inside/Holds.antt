-- What holds of a session between its calls.
use Rattle.std.specs.Prelude.{ℕ, ◌≡◌, ◌⊎◌, Bool, true, false, List, [], ◌∷◌, ◌++◌, length, Option, Some, None, IfSome}
use Rattle.ebr_base.specs.declared.numbers.EditionNo.{EditionNo}
use Rattle.ebr_base.specs.declared.numbers.SessionId.{SessionId}
use Rattle.ebr_asks.specs.declared.ask.Ask.{Ask}
use Rattle.ebr_asks.specs.declared.ask.Ask.TheVariants as ask
use Rattle.ebr_asks.specs.declared.entry.Exchange.{Exchange}
use Rattle.ebr_code.specs.Books.{Book}
use Rattle.ebr_asks.specs.declared.answer.Answer.{Answer}
use Rattle.ebr_asks.specs.declared.answer.Answer.TheVariants as answer
use Rattle.ebr_calls.specs.Steps.{leaving}
use Rattle.ebr_calls.specs.Continuation.{AllContinue}
use Rattle.ebr_calls.specs.Courses.{AsksNext, Course, GoesOn, Place, after, place}
use Rattle.ebr_session.specs.declared.session.Phase.{Phase}
use Rattle.ebr_session.specs.declared.session.Phase.TheVariants as phase
use Rattle.ebr_session.specs.declared.work.Work.{Work}
use Rattle.ebr_session.specs.Has.{Follows, GoesBehind, IsShort, Progress, Suits}
use Rattle.ebr_session.specs.Transcripts.{IsPrefix, answers, asks, printed_before}
use Rattle.ebr_session.specs.Sessions.{SessionRun}
use Rattle.ebr_session.specs.inside.Kept.{HasRoom, Kept}
use Rattle.ebr_session.specs.inside.Requests.{Reading, rest_of}
use Rattle.ebr_session.specs.inside.Stages.{Awaits, IsReady}

-- what a session keeps
pub record Parts (B : Type 0) : Type 0 where
  pub session : SessionId
  pub script : Reading
  pub transcript : Kept
  pub printed : List ℕ
  pub quit : Option ℕ
  pub work : Work B
  pub book : Option B

-- the ask that is out; one of a step that failed isn't
abbrev pub out_of : Phase → Option Ask → Option Ask
out_of phase.Working out = out
out_of phase.Leaving out = out
out_of phase.Quitting out = out
out_of p out = None

abbrev pub is_over : Phase → Bool
is_over phase.Over = true
is_over p = false

-- behind an answer that doesn't end it
abbrev pub phase_by : Answer → Phase → Phase
phase_by answer.NoMemory p = phase.Leaving
phase_by x p = p

abbrev pub phase_behind : Bool → Answer → Phase → Phase
phase_behind true x p = phase.Over
phase_behind false x p = phase_by x p

abbrev pub progress : {B : Type 0} → Phase → Option Ask → Parts B → Progress
progress p out s = record { session = s.session; script = s.script.script; transcript = s.transcript.exchanges; printed = s.printed; quit = s.quit; out = out_of p out; ended = is_over p }

-- what a session does behind a transcript
abbrev pub course_behind : List ℕ → List Exchange → Course
course_behind script mine coming quit = SessionRun script (answers mine ++ coming) (after (length mine) quit)

abbrev pub spot : {B : Type 0} → List Exchange → Parts B → Place
spot mine s = place (asks mine) s.printed s.work.packages s.work.room

-- Nothing was asked yet.
pub record First {B : Type 0} (s : Parts B) : Type 0 where
  pub none : s.transcript.exchanges ≡ []
  pub ready : IsReady s.work.stage
  pub goes : GoesOn (course_behind s.script.script []) (rest_of s.script) (spot [] s)

-- The last answer was taken, and nothing was done with it.
pub record Answered {B : Type 0} (serves : B → EditionNo → Book) (s : Parts B) : Type 0 where
  pub before : List Exchange
  pub last : Exchange
  pub is : s.transcript.exchanges ≡ before ++ last ∷ []
  pub suits : Suits serves last.answer s.book
  pub awaits : Awaits serves s.work.stage last.ask (course_behind s.script.script before) (rest_of s.script) (spot before s)

-- What the run asks next, whatever memory there is, and what it prints before.
pub record WillAsk (f : Course) (made : List Ask) (printed : List ℕ) : Type 0 where
  pub ask : Ask
  pub at : Place
  pub asks_are : at.asks ≡ made
  pub more : IsPrefix printed at.printed
  pub will : AsksNext f ask at

abbrev pub before_last : {B : Type 0} → Parts B → List ℕ
before_last s = printed_before s.script.script (answers s.transcript.exchanges) (length s.transcript.exchanges)

-- It waits for an answer.
pub record Waits {B : Type 0} (serves : B → EditionNo → Book) (q : Ask) (s : Parts B) : Type 0 where
  pub awaits : Awaits serves s.work.stage q (course_behind s.script.script s.transcript.exchanges) (rest_of s.script) (spot s.transcript.exchanges s)
  pub least : IsPrefix (before_last s) s.printed
  pub went_on : AllContinue (answers s.transcript.exchanges)
  pub no_quit : s.quit ≡ None
  pub room : HasRoom 2 s.transcript

-- It can go on.
pub record IsAnswered {B : Type 0} (serves : B → EditionNo → Book) (s : Parts B) : Type 0 where
  pub by : First s ⊎ Answered serves s
  pub next : WillAsk (course_behind s.script.script s.transcript.exchanges) (asks s.transcript.exchanges) s.printed
  pub still : s.printed ≡ before_last s
  pub went_on : AllContinue (answers s.transcript.exchanges)
  pub no_quit : s.quit ≡ None
  pub room : HasRoom 1 s.transcript

-- It found no memory.
pub record HasFailed {B : Type 0} (s : Parts B) : Type 0 where
  pub next : WillAsk (course_behind s.script.script s.transcript.exchanges) (asks s.transcript.exchanges) s.printed
  pub still : s.printed ≡ before_last s
  pub went_on : AllContinue (answers s.transcript.exchanges)
  pub no_quit : s.quit ≡ None
  pub room : HasRoom 1 s.transcript

-- It was answered that there is no memory, and is to leave.
pub record IsLeaving {B : Type 0} (out : Option Ask) (s : Parts B) : Type 0 where
  pub at : Place
  pub goes : GoesOn (course_behind s.script.script s.transcript.exchanges) leaving at
  pub asks_are : at.asks ≡ asks s.transcript.exchanges
  pub printed_is : at.printed ≡ s.printed
  pub still : s.printed ≡ before_last s
  pub short : IsShort s.transcript.exchanges
  pub no_quit : s.quit ≡ None
  pub leave : IfSome out (λ q. q ≡ ask.Leave)
  pub room : HasRoom 1 s.transcript

-- It has quit, and is to leave.
pub record HasQuit {B : Type 0} (out : Option Ask) (s : Parts B) : Type 0 where
  pub next : WillAsk (course_behind s.script.script s.transcript.exchanges) (asks s.transcript.exchanges) s.printed
  pub least : IsPrefix (before_last s) s.printed
  pub went_on : GoesBehind s.transcript.exchanges
  pub quit_is : s.quit ≡ Some (length s.transcript.exchanges)
  pub leave : IfSome out (λ q. q ≡ ask.Leave)
  pub room : HasRoom 1 s.transcript

abbrev pub Holds : {B : Type 0} → (B → EditionNo → Book) → Phase → Option Ask → Parts B → Type 0
Holds serves phase.Working (Some q) s = Waits serves q s
Holds serves phase.Working None s = IsAnswered serves s
Holds serves phase.Failed out s = HasFailed s
Holds serves phase.Leaving out s = IsLeaving out s
Holds serves phase.Quitting out s = HasQuit out s
Holds serves phase.Over out s = Follows (progress phase.Over out s)
