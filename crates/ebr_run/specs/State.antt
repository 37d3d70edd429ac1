-- The state of a run, and how runs are put together.
--
-- A run goes from a state to a state and tells how it ended. It is given the answers to its asks beforehand; where none is
-- left it waits.
use Rattle.std.specs.Prelude.{ℕ, zero, suc, ◌+◌, ◌-◌, nat_lt, Bool, true, false, if◌then◌else◌, List, [], ◌∷◌, ◌++◌, length, Option, Some, None}
use Rattle.ebr_base.specs.declared.code.Code.{Code}
use Rattle.ebr_base.specs.declared.code.Code.TheVariants.{Ebr}
use Rattle.ebr_base.specs.declared.value.Value.{Value}
use Rattle.ebr_exprtree.specs.declared.op.Op.{Op}
use Rattle.ebr_asks.specs.declared.ask.Ask.{Ask}
use Rattle.ebr_asks.specs.declared.ask.Ask.TheVariants as ask
use Rattle.ebr_asks.specs.declared.answer.Answer.{Answer}
use Rattle.ebr_asks.specs.declared.answer.Answer.TheVariants as answer
use Rattle.ebr_run.specs.declared.fault.Fault.{Fault}
use Rattle.ebr_run.specs.declared.fault.Fault.TheVariants as fault
use Rattle.ebr_run.specs.Cursors.{Cursor}
use Rattle.ebr_run.specs.Packages.{PackageState}
use Rattle.ebr_run.specs.Faults.{ebr, is_uncatchable}

-- what belongs to the running subprogram
pub record Memory : Type 0 where
  pub variables : List Value
  pub cursors : List Cursor
  pub faults : List Fault  -- what its handlers handle, the outermost first
  pub operands : List Value  -- what was computed and not yet used, the last first: of a run by trees, what it gives back

-- the row for which a trigger's body runs
pub record Row : Type 0 where
  pub op : Op
  pub old : List Value
  pub new : List Value

pub record State : Type 0 where
  pub memory : Memory
  pub packages : List PackageState
  pub row : Option Row  -- none outside triggers
  pub affected : Option ℕ  -- how many rows the last statement gave or changed
  pub lines : List (List ℕ)
  pub room : ℕ  -- how many bytes of lines there may still be
  pub asks : List Ask
  pub steps : ℕ
  pub left : ℕ  -- the most steps that there may be
  pub answers : List Answer  -- the answers to come

-- How a run ended. What ends by Stopped, no handler catches.
pub data End : Type 0 where
  Normal : End
  Exit : End
  Continue : End
  Returned : End
  Raised : Fault → End
  Stopped : Code → End
  Waiting : End

pub record Outcome : Type 0 where
  pub state : State
  pub end : End

abbrev pub Runs : Type 0
Runs = State → Outcome

-- ---- states

abbrev pub with_memory : Memory → State → State
with_memory m σ = record σ { memory = m }

abbrev pub with_operands : List Value → State → State
with_operands vs σ = record σ { memory = record σ.memory { operands = vs } }

-- without operands
abbrev pub bare : State → State
bare σ = with_operands [] σ

abbrev pub with_packages : List PackageState → State → State
with_packages ps σ = record σ { packages = ps }

-- ---- ends

abbrev pub ended : End → State → Outcome
ended e σ = record { state = σ; end = e }

abbrev pub done : State → Outcome
done σ = ended Normal (bare σ)

abbrev pub raises : Fault → State → Outcome
raises f σ = ended (Raised f) (bare σ)

abbrev pub stops : Code → State → Outcome
stops c σ = ended (Stopped c) (bare σ)

-- What has no meaning ends so: a name that stands for nothing, an answer of another kind than the ask. Of valid units and
-- the answers that asks may get nothing does.
abbrev pub broken : State → Outcome
broken σ = stops (Ebr 0) σ

-- ---- one after the other

abbrev pub go_on : End → Outcome → Runs → Outcome
go_on Normal o k = k o.state
go_on e o k = o

-- the second where the first ends normally
abbrev pub then_run : Outcome → Runs → Outcome
then_run o k = go_on o.end o k

-- ---- steps

-- A statement or a turn of a loop begins with a step. The step past the most that there may be ends the run.
abbrev pub step : State → Runs → Outcome
step σ k = if nat_lt σ.steps σ.left then k (record (bare σ) { steps = suc σ.steps }) else stops (Ebr 7) (record σ { steps = suc σ.steps })

-- ---- loops

abbrev pub turn_on : End → Outcome → Runs → Outcome
turn_on Normal o k = k o.state
turn_on Continue o k = k o.state
turn_on Exit o k = done o.state
turn_on e o k = o

-- what a loop does after a turn, or after its head
abbrev pub after_turn : Outcome → Runs → Outcome
after_turn o k = turn_on o.end o k

-- the head, a step, the body, and then the loop again
abbrev pub turn : Runs → Runs → Runs → Runs
turn head body again σ = after_turn (head (bare σ)) (λ τ. step τ (λ υ. after_turn (body υ) again))

abbrev pub turns : ℕ → Runs → Runs → Runs
turns zero head body σ = stops (Ebr 7) σ
turns (suc n) head body σ = turn head body (turns n head body) σ

-- Turn by turn, until the head or the body leaves it. Each turn takes a step, so that there are no more turns than steps.
unfoldable pub loop : Runs → Runs → Runs
loop head body σ = turns (suc (σ.left - σ.steps)) head body σ

-- a turn for each number below, the highest first
abbrev pub counting : ℕ → (ℕ → Runs) → Runs
counting zero body σ = done σ
counting (suc n) body σ = step σ (λ τ. after_turn (body n τ) (counting n body))

-- ---- exceptions

abbrev pub catch_on : End → Outcome → (Fault → Runs) → Outcome
catch_on (Raised f) o k = k f o.state
catch_on e o k = o

-- what was raised is handled
abbrev pub caught : Outcome → (Fault → Runs) → Outcome
caught o k = catch_on o.end o k

abbrev pub finish_on : End → Outcome → (State → State) → Outcome
finish_on Waiting o f = o
finish_on e o f = ended e (f o.state)

-- something that is done at the end, whichever way it comes to it
abbrev pub finally : Outcome → (State → State) → Outcome
finally o f = finish_on o.end o f

-- ---- lines

-- how much room a line takes: its end, or in a trigger's body 16 bytes more than its text
abbrev pub room_of : Option Row → List ℕ → ℕ
room_of None line = length line + 1
room_of (Some r) line = 16 + length line

-- a line for which there is no room
abbrev pub no_room : Option Row → Runs
no_room None σ = raises (ebr 9) σ
no_room (Some r) σ = stops (Ebr 11) σ

-- PUT_LINE
abbrev pub line : List ℕ → Runs
line l σ = if nat_lt σ.room (room_of σ.row l) then no_room σ.row σ else done (record σ { lines = σ.lines ++ l ∷ []; room = σ.room - room_of σ.row l })

-- the room that the lines of triggers leave; outside triggers they take none
abbrev pub room_behind : Option Row → List (List ℕ) → ℕ → ℕ
room_behind None ls room = room
room_behind (Some r) [] room = room
room_behind (Some r) (l ∷ ls) room = room_behind (Some r) ls (room - room_of (Some r) l)

-- ---- asks

abbrev pub refused : Code → Runs
refused c σ = if is_uncatchable c then stops c σ else raises (fault.Code c) σ

-- the steps and lines of the triggers that an ask fired
abbrev pub spent : ℕ → List (List ℕ) → State → State
spent n ls σ = record σ { lines = σ.lines ++ ls; room = room_behind σ.row ls σ.room; steps = σ.steps + n }

abbrev pub spend : ℕ → List (List ℕ) → State → Runs → Outcome
spend n ls σ k = if nat_lt σ.left (σ.steps + n) then stops (Ebr 7) (spent n ls σ) else k (spent n ls σ)

-- The steps and lines of an answer count, also where it refuses.
abbrev pub answered : Answer → State → (Answer → Runs) → Outcome
answered (answer.Count n steps ls) σ k = spend steps ls σ (k (answer.Count n steps ls))
answered (answer.Refused c steps ls) σ k = spend steps ls σ (refused c)
answered a σ k = k a σ

abbrev pub next_answer : List Answer → State → (Answer → Runs) → Outcome
next_answer [] σ k = ended Waiting σ
next_answer (a ∷ answers) σ k = answered a (record σ { answers = answers }) k

-- an ask, and what is done with its answer, where it is given
abbrev pub asked : Ask → State → (Answer → Runs) → Outcome
asked q σ k = next_answer σ.answers (record σ { asks = σ.asks ++ q ∷ [] }) k

-- an ask that is answered Done
abbrev pub when_done : Answer → Runs → Runs
when_done answer.Done k σ = k σ
when_done a k σ = broken σ

-- ---- transactions of their own

abbrev pub close_on : End → Outcome → Outcome
close_on Waiting o = o
close_on (Stopped c) o = o
close_on (Raised f) o = asked (ask.PopAuto true) o.state (λ a. when_done a (ended (Raised f)))
close_on e o = asked (ask.PopAuto false) o.state (λ a. when_done a (ended e))

-- The transaction ends with the unit; it failed where an exception leaves it.
abbrev pub closed : Outcome → Outcome
closed o = close_on o.end o

-- in a transaction of its own, or not
abbrev pub by_itself : Bool → Runs → Runs
by_itself false k σ = k σ
by_itself true k σ = asked ask.PushAuto σ (λ a. when_done a (λ τ. closed (k τ)))
