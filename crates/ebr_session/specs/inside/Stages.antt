-- What a session does by its stage.
use Rattle.std.specs.Prelude.{ℕ, ◌≡◌, List, ◌++◌, Option, Some, None}
use Rattle.ebr_base.specs.declared.numbers.EditionNo.{EditionNo}
use Rattle.ebr_asks.specs.declared.ask.Ask.{Ask}
use Rattle.ebr_asks.specs.declared.ask.Ask.TheVariants as ask
use Rattle.ebr_code.specs.Books.{Book}
use Rattle.ebr_machine.specs.declared.machine.Machine.{Machine}
use Rattle.ebr_machine.specs.Has.{IsOut}
use Rattle.ebr_calls.specs.declared.levels.Levels.{Levels}
use Rattle.ebr_calls.specs.Levels.{OpensBy}
use Rattle.ebr_calls.specs.Steps.{Step, asked, leaving, then_run}
use Rattle.ebr_calls.specs.Courses.{Asks, Course, GoesOn, IsIn, Place, place}
use Rattle.ebr_session.specs.declared.work.Stage.{Stage}
use Rattle.ebr_session.specs.declared.work.Stage.TheVariants as stage
use Rattle.ebr_session.specs.declared.work.Work.{Work}
use Rattle.ebr_session.specs.declared.after.After.{After}
use Rattle.ebr_session.specs.Has.{IsFit}
use Rattle.ebr_session.specs.inside.Requests.{Stays, behind}

-- An ask of the session itself is out.
pub record Requests (a : After) (q : Ask) (f : Course) (rest : Step) (p : Place) : Type 0 where
  pub fit : IsFit q
  pub stays : Stays q
  pub goes : GoesOn f (λ σ. then_run (asked q (behind a) σ) rest) p

-- An ask of a block's run is out.
pub record Runs (codes : Book) (m : Machine) (shown : ℕ) (l : Levels) (q : Ask) (f : Course) (rest : Step) (p : Place) : Type 0 where
  pub fit : IsFit q
  pub stays : Stays q
  pub asks : Asks f q p
  pub is_in : IsIn codes f m shown l.now rest p
  pub opens : OpensBy q l
  pub out : IsOut m
  pub is : q ≡ m.inner.ask

-- The last ask is out.
pub record Leaves (q : Ask) (f : Course) (p : Place) : Type 0 where
  pub leave : q ≡ ask.Leave
  pub goes : GoesOn f leaving p

-- This ask is out.
abbrev pub Awaits : {B : Type 0} → (B → EditionNo → Book) → Stage B → Ask → Course → Step → Place → Type 0
Awaits serves stage.Start q f rest p = ⊥
Awaits serves (stage.Plain a) q f rest p = Requests a q f rest p
Awaits serves (stage.Run c) q f rest p = Runs (serves c.value.book c.value.machine.edition) c.value.machine c.value.shown c.value.levels q f rest p
Awaits serves stage.Leaving q f rest p = Leaves q f p

-- What came of an answer: the next ask is out, or the script goes on.
abbrev pub Goes : {B : Type 0} → (B → EditionNo → Book) → Option Ask → Stage B → Course → Step → Place → Type 0
Goes serves (Some q) s f rest p = Awaits serves s q f rest p
Goes serves None s f rest p = GoesOn f rest p

-- The run of a block can take an answer.
abbrev pub IsReady : {B : Type 0} → Stage B → Type 0
IsReady (stage.Run c) = IsOut c.value.machine
IsReady s = Unit {0}

-- where the session stands, which had asked and printed this
abbrev pub here : {B : Type 0} → List Ask → List ℕ → Work B → Place
here made printed w = place made (printed ++ w.fresh) w.packages w.room
