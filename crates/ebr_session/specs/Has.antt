-- Where a session stands, as its callers see it, and what it has done by then.
use Rattle.std.specs.Prelude.{ℕ, ◌≡◌, ◌≤◌, ◌⊎◌, ◌||◌, Bool, true, false, List, [], ◌∷◌, ◌++◌, length, take, Option, Some, None, IfSome, is_some, Result, Ok, Err}
use Rattle.std.specs.List.{list_any}
use Rattle.ebr_base.specs.declared.clone_in.NoMemory.{NoMemory}
use Rattle.ebr_base.specs.declared.numbers.EditionNo.{EditionNo}
use Rattle.ebr_base.specs.declared.numbers.SessionId.{SessionId}
use Rattle.ebr_ast.specs.declared.definition.Definition.{Definition}
use Rattle.ebr_ast.specs.Views.{IsInOrder}
use Rattle.ebr_script.specs.Pieces.{CreatesObject, stored_definition}
use Rattle.ebr_asks.specs.declared.ask.Ask.{Ask}
use Rattle.ebr_asks.specs.declared.ask.Ask.TheVariants as ask
use Rattle.ebr_asks.specs.declared.answer.Answer.{Answer}
use Rattle.ebr_asks.specs.declared.answer.Answer.TheVariants as answer
use Rattle.ebr_asks.specs.declared.entry.Exchange.{Exchange}
use Rattle.ebr_code.specs.Books.{Book}
use Rattle.ebr_laws.specs.Served.{HasCodeOf}
use Rattle.ebr_calls.specs.Steps.{Outcome, Flow, Out, Ended, most_steps}
use Rattle.ebr_calls.specs.Continuation.{AllContinue}
use Rattle.ebr_session.specs.declared.next.NextAsk.{NextAsk}
use Rattle.ebr_session.specs.declared.next.NextAsk.TheVariants as next
use Rattle.ebr_session.specs.Sessions.{SessionRun, Printed}
use Rattle.ebr_session.specs.Transcripts.{IsPrefix, answers, asks, ends, exchange, printed_before}

-- Where a session stands.
pub record Progress : Type 0 where
  pub session : SessionId
  pub script : List ℕ
  pub transcript : List Exchange  -- its asks, with the answers that it took
  pub printed : List ℕ
  pub quit : Option ℕ  -- after how many answers it quit, if it did
  pub out : Option Ask  -- the ask that waits for its answer
  pub ended : Bool

-- ---- what its calls do

abbrev pub begun : SessionId → List ℕ → Progress
begun id script = record { session = id; script = script; transcript = []; printed = []; quit = None; out = None; ended = false }

-- an answer behind which a session is to leave
abbrev pub wants : Answer → Bool
wants answer.NoMemory = true
wants x = false

-- one of its exchanges was answered so
abbrev pub is_short : List Exchange → Bool
is_short mine = list_any (λ (x : Exchange). wants x.answer) mine

-- It is to leave: it has quit, or was answered that there is no memory.
abbrev pub is_leaving : Progress → Bool
is_leaving s = is_some s.quit || is_short s.transcript

-- An answer was taken.
abbrev pub answered : Option Ask → Answer → Progress → Progress
answered None x s = s
answered (Some q) x s = record s { transcript = s.transcript ++ exchange q x ∷ []; out = None; ended = ends q x }

-- It has quit, unless it had ended: the ask that was out is dropped.
abbrev pub quitting : Bool → Progress → Progress
quitting true s = s
quitting false s = record s { quit = Some (length s.transcript); out = None }

-- the bytes that a script may have
abbrev pub most_bytes : ℕ
most_bytes = 1048576

-- a text that goes with a definition: the stored text of the object that it creates, and else none
pub record IsTextOf (what : Definition) (text : List ℕ) : Type 0 where
  pub spelled : CreatesObject what → stored_definition text ≡ Some what
  pub none : (CreatesObject what → ⊥) → text ≡ []
  pub small : length text ≤ most_bytes

-- what the engine needs of an ask
abbrev pub IsFit : Ask → Type 0
IsFit (ask.Sql s binds left) = left ≤ most_steps
IsFit (ask.Ddl what text) = IsTextOf what text
IsFit q = Unit {0}

-- what comes with an answer: with a view, a book that answers the code of what it sees
abbrev pub Suits : {B : Type 0} → (B → EditionNo → Book) → Answer → Option B → Type 0
Suits serves (answer.View v) (Some b) = IsInOrder v × HasCodeOf v (serves b v.edition)
Suits serves (answer.View v) None = ⊥
Suits serves x book = Unit {0}

-- The next ask is out. A session that is to leave does so, and prints nothing more.
pub record MakesAsk (q : Ask) (old new : Progress) : Type 0 where
  pub goes_on : old.ended ≡ false
  pub is : new ≡ record old { printed = new.printed; out = Some q }
  pub more : IsPrefix old.printed new.printed
  pub leaves : is_leaving old ≡ true → (q ≡ ask.Leave) × (new.printed ≡ old.printed)
  pub fit : IsFit q

-- What comes of going on. One that found no memory stays where it was, and one that is to leave or has ended needs none.
abbrev pub Advances : Result NextAsk NoMemory → Progress → Progress → Type 0
Advances (Ok (next.Ask q)) old new = MakesAsk q old new
Advances (Ok next.Done) old new = (old.ended ≡ true) × (new ≡ old)
Advances (Err e) old new = (old.ended ≡ false) × (is_leaving old ≡ false) × (new ≡ old)

-- ---- what it has done

-- what its script does with the answers that it took
abbrev pub run_of : Progress → Outcome
run_of s = SessionRun s.script (answers s.transcript) s.quit

-- The run stands so, and has made just these asks.
pub record Made (flow : Flow) (made : List Ask) (s : Progress) : Type 0 where
  pub flow_is : (run_of s).flow ≡ flow
  pub asks_are : (run_of s).state.asks ≡ made

-- What it asked is what its run asks. It has ended where its run has, and else the run asks once more: just what is out.
abbrev pub HasAsked : Bool → Option Ask → Progress → Type 0
HasAsked true out s = Made Ended (asks s.transcript) s
HasAsked false (Some q) s = Made Out (asks s.transcript ++ q ∷ []) s
HasAsked false None s = (q : Ask) × Made Out (asks s.transcript ++ q ∷ []) s

-- It printed what its run prints; between an answer and the next ask, what is printed for the answers before. One that quits
-- for want of memory has printed a part of what is printed for the answers that it took before, and at least what is printed
-- for all of them but the last.
abbrev pub HasPrinted : Option ℕ → Bool → Option Ask → Progress → Type 0
HasPrinted None false None s = (s.printed ≡ printed_before s.script (answers s.transcript) (length s.transcript)) × IsPrefix s.printed (run_of s).state.printed
HasPrinted None false (Some q) s = s.printed ≡ (run_of s).state.printed
HasPrinted None true out s = s.printed ≡ (run_of s).state.printed
HasPrinted (Some n) ended out s = IsPrefix (printed_before s.script (answers s.transcript) n) s.printed × IsPrefix s.printed (run_of s).state.printed × ((run_of s).state.printed ≡ Printed s.script (take n (answers s.transcript)))

-- Its last answer was that there is no memory, and behind those before it went on with its script.
pub record IsShort (mine : List Exchange) : Type 0 where
  pub before : List Exchange
  pub ask : Ask
  pub is : mine ≡ before ++ exchange ask answer.NoMemory ∷ []
  pub went_on : AllContinue (answers before)

-- Behind each of its answers it went on with its script, and may have been left without memory by the last one.
abbrev pub GoesBehind : List Exchange → Type 0
GoesBehind mine = AllContinue (answers mine) ⊎ IsShort mine

-- The last exchange ended it, and none before. That one is Leave where it quit, or was answered before that there is no memory.
pub record EndsWith (last : Exchange) (s : Progress) : Type 0 where
  pub before : List Exchange
  pub is : s.transcript ≡ before ++ last ∷ []
  pub went_on : GoesBehind before
  pub short : is_short before ≡ true → last.ask ≡ ask.Leave
  pub ends : ends last.ask last.answer ≡ true
  pub quit : IfSome s.quit (λ n. (n ≡ length before) × (last.ask ≡ ask.Leave))

-- No answer but the last one ended it.
abbrev pub WentOn : Bool → Progress → Type 0
WentOn true s = (last : Exchange) × EndsWith last s
WentOn false s = GoesBehind s.transcript × IfSome s.quit (λ n. n ≡ length s.transcript)

-- A session's asks, what it printed and its transcript are those of its run with the answers that it took.
pub record Follows (s : Progress) : Type 0 where
  pub asked : HasAsked s.ended s.out s
  pub printed : HasPrinted s.quit s.ended s.out s
  pub went_on : WentOn s.ended s
