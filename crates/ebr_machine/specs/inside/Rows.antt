-- Rows of operations that ask no book.
use Rattle.std.specs.Prelude.{◌≡◌, ℕ, Bool, true, false, List, ◌∷◌, drop}
use Rattle.ebr_asks.specs.declared.ask.Ask.{Ask}
use Rattle.ebr_asks.specs.declared.answer.Answer.{Answer}
use Rattle.ebr_run.specs.Expressions.{Calls}
use Rattle.ebr_run.specs.State.{Outcome, then_run}
use Rattle.ebr_code.specs.Books.{Book}
use Rattle.ebr_code.specs.declared.instruction.Instruction.{Instruction}
use Rattle.ebr_code.specs.declared.instruction.Operation.{Operation}
use Rattle.ebr_code.specs.declared.instruction.Operation.TheVariants as does
use Rattle.ebr_code.specs.Instructions.{Meaning, run}
use Rattle.ebr_running.specs.declared.running.Flow.{Flow}
use Rattle.ebr_running.specs.declared.running.Flow.TheVariants as flow
use Rattle.ebr_running.specs.declared.running.Running.{Running}
use Rattle.ebr_running.specs.declared.running.Task.TheVariants as task
use Rattle.ebr_running.specs.Rest.{Computes, Saved, later_of, resume, stands_at, state_of}

-- whether an operation asks no book
abbrev pub is_plain : Operation → Bool
is_plain (does.Call f) = false
is_plain (does.Refer r p) = false
is_plain o = true

-- what was done, or nothing
abbrev pub IfDone : Bool → Running → Running → Meaning → Type 0
IfDone true old new m = Computes old new m
IfDone false old new m = new ≡ old

-- new is what old becomes where the instructions from one place up to another are done
pub record Ran (old new : Running) (place at : ℕ) (body : List Instruction) : Type 0 where
  pub later : later_of new ≡ later_of old
  pub here : (calls : Calls) (asks : List Ask) (answers : List Answer) → then_run (stands_at new (state_of new asks answers)) (run (drop at body) calls) ≡ run (drop place body) calls (state_of old asks answers)

-- new has to do these instructions of a code before all that old has to do, and is else as old
pub record LeavesRest (old new : Running) (body : List Instruction) (at : ℕ) : Type 0 where
  pub same : new ≡ record old { tasks = new.tasks }
  pub later : (book : Book) (m n : ℕ) (s : Saved) (o : Outcome) → resume book m n new.tasks s o ≡ resume book m n (task.Rest body at ∷ old.tasks) s o

-- whether what ran last has ended normally
abbrev pub is_normal : Flow → Bool
is_normal flow.Normal = true
is_normal e = false
