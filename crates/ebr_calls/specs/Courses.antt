-- What a session will do, by the answers still to come: what calls promise of it.
use Rattle.std.specs.Prelude.{ℕ, zero, suc, ◌≡◌, true, false, codes, List, [], ◌∷◌, ◌++◌, length, Option, Some, None}
use Rattle.ebr_asks.specs.declared.ask.Ask.{Ask}
use Rattle.ebr_asks.specs.declared.answer.Answer.{Answer}
use Rattle.ebr_run.specs.Packages.{PackageState}
use Rattle.ebr_run.specs.Run.{Seen}
use Rattle.ebr_code.specs.Books.{Book}
use Rattle.ebr_base.specs.Code.{code_text}
use Rattle.ebr_machine.specs.declared.next.End.{End}
use Rattle.ebr_machine.specs.declared.next.End.TheVariants as end
use Rattle.ebr_machine.specs.declared.next.Next.{Next}
use Rattle.ebr_machine.specs.declared.next.Next.TheVariants as next
use Rattle.ebr_machine.specs.declared.machine.Machine.{Machine}
use Rattle.ebr_machine.specs.Has.{Has}
use Rattle.ebr_calls.specs.Asked.{IsCounted, IsOfRun}
use Rattle.ebr_calls.specs.Continuation.{AllContinue}
use Rattle.ebr_calls.specs.Steps.{State, Outcome, Step, Out, asked, ended, leaving, then_run, lines_of, most_steps, run_on, open_behind, ending, closing}

-- What a session does by the answers still to come and the number of them after which it quits.
abbrev pub Course : Type 0
Course = List Answer → Option ℕ → Outcome

abbrev pub later : Option ℕ → Option ℕ
later None = None
later (Some n) = Some (suc n)

-- that many answers later
abbrev pub after : ℕ → Option ℕ → Option ℕ
after zero quit = quit
after (suc n) quit = later (after n quit)

-- the same where one answer has come
abbrev pub with_answer : Answer → Course → Course
with_answer x f coming quit = f (x ∷ coming) (later quit)

-- where a session stands, but for the answers still to come
pub record Place : Type 0 where
  pub asks : List Ask
  pub printed : List ℕ
  pub packages : List PackageState
  pub room : ℕ

abbrev pub state_at : Place → List Answer → Option ℕ → State
state_at p coming quit = record { asks = p.asks; printed = p.printed; packages = p.packages; room = p.room; coming = coming; quit = quit }

-- Whatever answers are still to come, and whenever the session quits, it goes on with this step.
pub record GoesOn (f : Course) (step : Step) (p : Place) : Type 0 where
  pub by : (coming : List Answer) (quit : Option ℕ) → f coming quit ≡ step (state_at p coming quit)

-- what a course does with an answer
abbrev pub takes : Course → Answer → Step
takes f x σ = f (x ∷ σ.coming) (later σ.quit)

-- It makes this ask, and takes the answer.
abbrev pub Asks : Course → Ask → Place → Type 0
Asks f q p = GoesOn f (asked q (takes f)) p

-- A block runs, of which so many lines are printed: where it began, what it asked and was answered since, and what comes
-- behind it.
pub record IsIn (codes : Book) (f : Course) (m : Machine) (shown levels : ℕ) (rest : Step) (p : Place) : Type 0 where
  pub run : List Answer → Seen
  pub before : Place
  pub asks : List Ask
  pub answers : List Answer
  pub has : Has codes m p.packages most_steps run asks answers
  pub counted : (coming : List Answer) → IsCounted most_steps coming (run coming)
  pub by : (coming : List Answer) (quit : Option ℕ) → f coming quit ≡ then_run (run_on run (state_at before (answers ++ coming) (after (length answers) quit))) rest
  pub went_on : AllContinue answers
  pub count : length asks ≡ length answers
  pub asked_are : p.asks ≡ before.asks ++ asks
  pub printed_is : p.printed ≡ before.printed ++ lines_of m.inner.lines
  pub shown_are : shown ≡ length m.inner.lines
  pub levels_are : levels ≡ open_behind zero asks answers

abbrev pub place : List Ask → List ℕ → List PackageState → ℕ → Place
place made printed packages room = record { asks = made; printed = printed; packages = packages; room = room }

abbrev pub with_ask : Ask → Place → Place
with_ask q p = record p { asks = p.asks ++ q ∷ [] }

-- Its next ask is this one, and where it quits, it leaves in its place.
pub record AsksNext (f : Course) (q : Ask) (p : Place) : Type 0 where
  pub out : f [] None ≡ ended (state_at (with_ask q p) [] None) Out
  pub left : (coming : List Answer) → f coming (Some zero) ≡ leaving (state_at p coming (Some zero))

-- what a session does where a run has ended with so many transactions of its own open
abbrev pub finishing : End → ℕ → Step
finishing end.Returned n = ending false (codes "OK")
finishing (end.Raised c) n = closing n (ending true (code_text c))

-- What comes next in a call: an ask, behind which it is still in the run, or what is done at its end.
abbrev pub Comes : Next → Book → Course → Machine → ℕ → ℕ → Step → Place → Type 0
Comes (next.Ask q) codes f m shown levels rest p = Asks f q p × IsIn codes f m shown levels rest p × IsOfRun most_steps q
Comes (next.Done e) codes f m shown levels rest p = GoesOn f (λ σ. then_run (finishing e levels σ) rest) p
