-- What is left of a run: what the tasks do with how what is above them ends.
use Rattle.std.specs.Prelude.{◌≡◌, ◌⊎◌, ℕ, ◌-◌, Bool, true, false, List, [], ◌∷◌, drop, map, Option, Some, None, option_map}
use Rattle.ebr_base.specs.declared.value.Value.{Value}
use Rattle.ebr_asks.specs.declared.ask.Ask.{Ask}
use Rattle.ebr_asks.specs.declared.ask.Ask.TheVariants as ask
use Rattle.ebr_asks.specs.declared.answer.Answer.{Answer}
use Rattle.ebr_run.specs.declared.fault.Fault.{Fault}
use Rattle.ebr_run.specs.Cursors.{Cursor, Closed}
use Rattle.ebr_run.specs.State as run
use Rattle.ebr_run.specs.State.{Memory, Row, State, Outcome, End, Runs, bare, ended, done, then_run, step, after_turn, loop, caught, finally, answered, asked, when_done, closed}
use Rattle.ebr_run.specs.Values.{with_cursor}
use Rattle.ebr_run.specs.Expressions.{Calls, given_back}
use Rattle.ebr_run.specs.Statements.{between}
use Rattle.ebr_run.specs.Calls.{Part, left, returned, forget_if_failed, by_frames, by_makings}
use Rattle.ebr_base.specs.declared.code.Code.TheVariants.{Ebr}
use Rattle.ebr_code.specs.declared.instruction.Instruction.{Instruction}
use Rattle.ebr_code.specs.declared.instruction.Lookup.{Lookup}
use Rattle.ebr_code.specs.declared.book.Subprogram.{Subprogram}
use Rattle.ebr_code.specs.declared.book.Unit as compiled
use Rattle.ebr_code.specs.Books.{Book}
use Rattle.ebr_code.specs.Instructions.{Meaning, run as runs, holding, above, handled, handling_of, looked_up}
use Rattle.ebr_code.specs.Runs.{part_at, parts_of}
use Rattle.ebr_running.specs.declared.running.BodyFrame.{BodyFrame}
use Rattle.ebr_running.specs.declared.running.Flow.{Flow}
use Rattle.ebr_running.specs.declared.running.Flow.TheVariants as flow
use Rattle.ebr_running.specs.declared.running.Left.{Left}
use Rattle.ebr_running.specs.declared.running.Left.TheVariants as leaves
use Rattle.ebr_running.specs.declared.running.Pending.{Pending}
use Rattle.ebr_running.specs.declared.running.Pending.TheVariants as pending
use Rattle.ebr_running.specs.declared.running.Task.{Task}
use Rattle.ebr_running.specs.declared.running.Task.TheVariants as task
use Rattle.ebr_running.specs.declared.running.Running.{Running}
use Rattle.ebr_memory.specs.Levels.{first, others, with_top, opened}

-- ---- the memory of those that wait for a call or a making to end, the last one first

pub record Saved : Type 0 where
  pub variables : List (List Value)
  pub cursors : List (List Cursor)
  pub faults : List (List Fault)
  pub operands : List (List Value)

-- that of the last one; its operands are told apart
abbrev pub memory_of : Saved → Memory
memory_of s = record { variables = first s.variables; cursors = first s.cursors; faults = first s.faults; operands = [] }

abbrev pub operands_of : Saved → List Value
operands_of s = first s.operands

abbrev pub outer : Saved → Saved
outer s = record { variables = others s.variables; cursors = others s.cursors; faults = others s.faults; operands = others s.operands }

-- ---- calls

-- the calls in an edition, with so many makings and frames left
abbrev pub calls_at : Book → ℕ → ℕ → Calls
calls_at book m n = by_frames (parts_of book) (by_makings (parts_of book) m) n

-- a part that gives nothing back
abbrev pub nothing : Part
nothing = record { formals = []; function = false; autonomous = false; run = λ calls σ. ended run.Normal σ }

abbrev pub or_nothing : Option Part → Part
or_nothing None = nothing
or_nothing (Some p) = p

abbrev pub part_in : compiled.Unit → ℕ → Part
part_in u at = or_nothing (part_at u at)

-- ---- tasks

-- the step and the body of a turn, and then the loop again
abbrev pub rest_of_turn : Runs → Runs → Runs
rest_of_turn head body σ = step σ (λ τ. after_turn (body τ) (loop head body))

-- a unit that runs in a transaction of its own
abbrev pub by_itself : Bool → Runs → Runs
by_itself function body σ = closed (returned function (body (bare σ)))

-- The tasks, the topmost first, with so many makings and frames left to the topmost.
abbrev pub resume : Book → ℕ → ℕ → List Task → Saved → Outcome → Outcome
resume book m n [] s o = o
resume book m n (task.Rest code place ∷ ts) s o = resume book m n ts s (then_run o (runs (drop place code) (calls_at book m n)))
resume book m n (task.Head head body ∷ ts) s o = resume book m n ts s (after_turn o (rest_of_turn (runs head (calls_at book m n)) (runs body (calls_at book m n))))
resume book m n (task.Loop head body ∷ ts) s o = resume book m n ts s (after_turn o (loop (runs head (calls_at book m n)) (runs body (calls_at book m n))))
resume book m n (task.Numbers k reversed low high body ∷ ts) s o = resume book m n ts s (after_turn o (between k reversed low high (runs body (calls_at book m n))))
resume book m n (task.Guard k hs ∷ ts) s o = resume book m n ts s (caught o (handled k (map handling_of hs) (calls_at book m n)))
resume book m n (task.Closing l ∷ ts) s o = resume book m n ts s (finally o (with_cursor l Closed))
resume book m n (task.Function ∷ ts) s o = resume book m n ts s (returned true o)
resume book m n (task.Autonomous function code ∷ ts) s o = resume book m n ts s (then_run o (by_itself function (runs code (calls_at book m n))))
resume book m n (task.Close ∷ ts) s o = resume book m n ts s (closed o)
resume book m n (task.Making name m' ∷ ts) s o = resume book m' n ts (outer s) (then_run (forget_if_failed name (left nothing (memory_of s) o)) (holding (operands_of s)))
resume book m n (task.Call c ∷ ts) s o = resume book m c.frames_left ts (outer s) (given_back c.results (left (part_in c.unit c.place) (memory_of s) o) (above (operands_of s)))

-- ---- the machine

abbrev pub row_of : BodyFrame → Row
row_of f = record { op = f.op; old = f.old; new = f.new }

-- where a run stands, if these asks were handed out and these answers are still to come
abbrev pub state_of : Running → List Ask → List Answer → State
state_of m asks answers = record {
  memory = record { variables = m.variables.top; cursors = m.cursors.top; faults = m.faults.top; operands = m.operands.top };
  packages = m.packages;
  row = option_map row_of m.row;
  affected = m.affected;
  lines = m.lines;
  room = m.room;
  asks = asks;
  steps = m.steps;
  left = m.left;
  answers = answers;
}

abbrev pub saved_of : Running → Saved
saved_of m = record { variables = m.variables.beneath; cursors = m.cursors.beneath; faults = m.faults.beneath; operands = m.operands.beneath }

abbrev pub end_of : Flow → Fault → End
end_of flow.Normal f = run.Normal
end_of flow.Exit f = run.Exit
end_of flow.Continue f = run.Continue
end_of flow.Returned f = run.Returned
end_of flow.Raised f = run.Raised f
end_of (flow.Stopped c) f = run.Stopped c
end_of flow.Waiting f = run.Waiting

abbrev pub left_with : Left → Fault → End
left_with leaves.Normal f = run.Normal
left_with leaves.Exit f = run.Exit
left_with leaves.Continue f = run.Continue
left_with leaves.Returned f = run.Returned
left_with leaves.Raised f = run.Raised f

-- what is done with an answer that is no refusal
abbrev pub after : Pending → Lookup → Fault → Answer → Runs
after pending.Lookup l f a σ = looked_up l a σ
after pending.Done l f a σ = when_done a done σ
after (pending.Close e) l f a σ = when_done a (ended (left_with e f)) σ

-- an ask that is out takes the next answer
abbrev pub awake : Flow → Fault → Ask → Pending → Lookup → Runs
awake flow.Waiting f q p l σ = asked q σ (after p l f)
awake e f q p l σ = ended (end_of e f) σ

abbrev pub stands_at : Running → Runs
stands_at m σ = awake m.flow m.fault m.ask m.pending m.lookup σ

-- all that a run will do
abbrev pub rest_of : Book → Running → List Ask → List Answer → Outcome
rest_of book m asks answers = resume book m.makings_left m.frames_left m.tasks (saved_of m) (stands_at m (state_of m asks answers))

abbrev pub calls : Book → Running → Calls
calls book m = calls_at book m.makings_left m.frames_left

-- ---- what methods do

-- what a run has to do later, and the memory of those that wait for it
pub record Later : Type 0 where
  pub makings_left : ℕ
  pub frames_left : ℕ
  pub tasks : List Task
  pub saved : Saved

abbrev pub later_of : Running → Later
later_of m = record { makings_left = m.makings_left; frames_left = m.frames_left; tasks = m.tasks; saved = saved_of m }

-- where a run stands, with what it may call and what it has to do later
pub record Stand : Type 0 where
  pub calls : Calls
  pub later : Later
  pub here : Outcome

unfoldable pub stand : Calls → Later → Outcome → Stand
stand c l o = record { calls = c; later = l; here = o }

-- new is what old becomes where what has this meaning begins, whatever it may call, and has the same to do later
abbrev pub Computes : Running → Running → Meaning → Type 0
Computes old new m =
    (calls : Calls) (asks : List Ask) (answers : List Answer)
    → stand calls (later_of new) (stands_at new (state_of new asks answers)) ≡ stand calls (later_of old) (m calls (state_of old asks answers))

-- the same of what calls nothing
abbrev pub Moves : Running → Running → Runs → Type 0
Moves old new f =
    (calls : Calls) (asks : List Ask) (answers : List Answer)
    → stand calls (later_of new) (stands_at new (state_of new asks answers)) ≡ stand calls (later_of old) (f (state_of old asks answers))

-- new is what old becomes where this begins
abbrev pub DoesIn : Book → Running → Running → Runs → Type 0
DoesIn book old new f =
    (asks : List Ask) (answers : List Answer)
    → rest_of book new asks answers ≡ resume book old.makings_left old.frames_left old.tasks (saved_of old) (f (state_of old asks answers))

abbrev pub Does : Running → Running → Runs → Type 0
Does old new f = (book : Book) → DoesIn book old new f

-- new is what old becomes where what has this meaning begins
abbrev pub ActsIn : Book → Running → Running → Meaning → Type 0
ActsIn book old new m = DoesIn book old new (m (calls book old))

abbrev pub Acts : Running → Running → Meaning → Type 0
Acts old new m = (book : Book) → ActsIn book old new m

-- new is what old becomes where what is above these tasks has ended
abbrev pub FollowsIn : Book → Running → Running → List Task → Type 0
FollowsIn book old new ts =
    (asks : List Ask) (answers : List Answer)
    → rest_of book new asks answers ≡ resume book old.makings_left old.frames_left ts (saved_of old) (ended (end_of old.flow old.fault) (state_of old asks answers))

abbrev pub Follows : Running → Running → List Task → Type 0
Follows old new ts = (book : Book) → FollowsIn book old new ts

-- no ask is out
abbrev pub running : Flow → Bool
running flow.Waiting = false
running f = true

abbrev pub IsRunning : Flow → Type 0
IsRunning f = running f ≡ true

-- nothing is left to do before an answer
abbrev pub IsStill : Flow → List Task → Type 0
IsStill f ts = (running f ≡ false) ⊎ (ts ≡ [])

-- ---- answers

-- what an answer does
abbrev pub absorbed : Answer → Running → Runs
absorbed a m σ = answered a σ (after m.pending m.lookup m.fault)

-- all that a run will do, with the answer that has arrived, if one has, to the last of these asks
abbrev pub stands : Book → Running → Option Answer → List Ask → List Answer → Outcome
stands book m None asks answers = rest_of book m asks answers
stands book m (Some a) asks answers = resume book m.makings_left m.frames_left m.tasks (saved_of m) (absorbed a m (state_of m asks answers))

-- ---- where a run begins

-- what a subprogram has to do before these tasks
abbrev pub first_tasks : Bool → Bool → List Instruction → List Task → List Task
first_tasks true function code ts = task.Autonomous function code ∷ ts
first_tasks false true code ts = task.Rest code 0 ∷ task.Function ∷ ts
first_tasks false false code ts = task.Rest code 0 ∷ ts

abbrev pub first_flow : Bool → Flow
first_flow true = flow.Waiting
first_flow false = flow.Normal

-- A unit that has a transaction of its own begins with the ask for it.
abbrev pub beginning : Option Subprogram → Flow × List Task
beginning None = (flow.Stopped (Ebr 0), [])
beginning (Some s) = (first_flow s.autonomous, first_tasks s.autonomous s.function s.code [])

-- ---- calls

-- a machine that begins a subprogram
abbrev pub entering : compiled.Unit → ℕ → ℕ → Subprogram → List Value → Running → Running
entering u place results s arguments m = record m {
  variables = with_top arguments (opened m.variables);
  cursors = opened m.cursors;
  faults = opened m.faults;
  operands = opened m.operands;
  frames_left = m.frames_left - 1;
  tasks = first_tasks s.autonomous s.function s.code (task.Call (record { unit = u; place = place; results = results; frames_left = m.frames_left }) ∷ m.tasks);
  flow = first_flow s.autonomous;
  ask = ask.PushAuto;
  pending = pending.Done;
}
