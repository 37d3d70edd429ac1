-- Turns of loops.
use Rattle.std.specs.Prelude.{◌≡◌, ℕ, Bool, true, false, List, drop}
use Rattle.ebr_asks.specs.declared.ask.Ask.{Ask}
use Rattle.ebr_asks.specs.declared.answer.Answer.{Answer}
use Rattle.ebr_run.specs.Expressions.{Calls}
use Rattle.ebr_run.specs.State.{Outcome, Runs, done, loop, step, then_run}
use Rattle.ebr_code.specs.Books.{Book}
use Rattle.ebr_code.specs.declared.instruction.Instruction.{Instruction}
use Rattle.ebr_code.specs.Instructions.{run}
use Rattle.ebr_running.specs.declared.running.Flow.{Flow}
use Rattle.ebr_running.specs.declared.running.Flow.TheVariants as flow
use Rattle.ebr_running.specs.declared.running.Running.{Running}
use Rattle.ebr_running.specs.Rest.{calls, later_of, rest_of, rest_of_turn, resume, saved_of, stands_at, state_of}

-- whether a loop goes on behind a code that has ended or not
abbrev pub turn_ends : Flow → Bool → Bool
turn_ends flow.Normal end = end
turn_ends flow.Continue end = true
turn_ends e end = false

-- all that a run will do if this begins
abbrev pub with_next : Book → Running → Runs → List Ask → List Answer → Outcome
with_next book m f asks answers = resume book m.makings_left m.frames_left m.tasks (saved_of m) (f (state_of m asks answers))

-- a loop of this head and this body
abbrev pub loop_in : List Instruction → List Instruction → Book → Running → Runs
loop_in head body book m = loop (run head (calls book m)) (run body (calls book m))

-- what is behind the head of a turn
abbrev pub turn_in : List Instruction → List Instruction → Book → Running → Runs
turn_in head body book m = rest_of_turn (run head (calls book m)) (run body (calls book m))

-- new is what old becomes where this begins, but that the loop is still to do
pub record Again (old new : Running) (head body : List Instruction) (f : List Instruction → List Instruction → Book → Running → Runs) : Type 0 where
  pub flow : new.flow ≡ flow.Normal
  pub goes : (book : Book) (asks : List Ask) (answers : List Answer) → with_next book new (loop_in head body book new) asks answers ≡ with_next book old (f head body book old) asks answers

-- new is what old becomes where this begins, with the loop still to do or not
abbrev pub Turned : Bool → Running → Running → List Instruction → List Instruction → (List Instruction → List Instruction → Book → Running → Runs) → Type 0
Turned true old new head body f = Again old new head body f
Turned false old new head body f = (book : Book) (asks : List Ask) (answers : List Answer) → rest_of book new asks answers ≡ with_next book old (f head body book old) asks answers

-- new is what old becomes where a step and the instructions of a code up to a place are done
pub record Stepped (old new : Running) (at : ℕ) (body : List Instruction) : Type 0 where
  pub later : later_of new ≡ later_of old
  pub here : (calls : Calls) (asks : List Ask) (answers : List Answer) → then_run (stands_at new (state_of new asks answers)) (run (drop at body) calls) ≡ then_run (step (state_of old asks answers) done) (run body calls)
