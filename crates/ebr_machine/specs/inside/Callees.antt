-- What calls find and give back, and how packages are found.
use Rattle.std.specs.Prelude.{◌≡◌, ℕ, suc, zero, ◌-◌, Bool, true, false, not, ◌&&◌, if◌then◌else◌, List, [], ◌∷◌, ◌++◌, take, drop, reverse, slice_get, Option, Some, None}
use Rattle.std.specs.Option.{is_none}
use Rattle.ebr_base.specs.declared.code.Code.{Code}
use Rattle.ebr_base.specs.declared.numbers.Stamp.{Stamp}
use Rattle.ebr_base.specs.declared.object.Class.TheVariants as class
use Rattle.ebr_base.specs.declared.value.Value.{Value}
use Rattle.ebr_base.specs.declared.value.Value.TheVariants as value
use Rattle.ebr_ast.specs.Views.{unit_key}
use Rattle.ebr_asks.specs.declared.ask.Ask.{Ask}
use Rattle.ebr_asks.specs.declared.ask.Ask.TheVariants as ask
use Rattle.ebr_asks.specs.declared.answer.Answer.{Answer}
use Rattle.ebr_run.specs.declared.callee.Callee.{Callee}
use Rattle.ebr_run.specs.declared.callee.Reference.{Reference}
use Rattle.ebr_run.specs.declared.callee.Reference.TheVariants as reference
use Rattle.ebr_run.specs.Faults.{ebr}
use Rattle.ebr_run.specs.Scope.{body_key}
use Rattle.ebr_run.specs.Packages.{state_of, at}
use Rattle.ebr_run.specs.State.{State, Memory, Outcome, Runs, Normal, ended, raises, broken, bare, then_run}
use Rattle.ebr_run.specs.Values.{unfit}
use Rattle.ebr_run.specs.Expressions.{Calls, given_back}
use Rattle.ebr_run.specs.Calls.{Formal, Part, enter, too_deep, result_values, left, returned, back_in, make, refer_to}
use Rattle.ebr_run.specs.Units.{with_specification}
use Rattle.ebr_code.specs.declared.book.Unit as compiled
use Rattle.ebr_code.specs.declared.book.Subprogram.{Subprogram}
use Rattle.ebr_code.specs.declared.instruction.Instruction.{Instruction}
use Rattle.ebr_code.specs.Books.{Book}
use Rattle.ebr_code.specs.Instructions.{run, holding, above, last, beneath}
use Rattle.ebr_code.specs.Runs.{parts_of}
use Rattle.ebr_memory.specs.Levels.{closed, opened, with_top}
use Rattle.ebr_running.specs.declared.running.Caller.{Caller}
use Rattle.ebr_running.specs.declared.running.Flow.{Flow}
use Rattle.ebr_running.specs.declared.running.Flow.TheVariants as flow
use Rattle.ebr_running.specs.declared.running.Pending.TheVariants as pending
use Rattle.ebr_running.specs.declared.running.Running.{Running}
use Rattle.ebr_running.specs.declared.running.Task.{Task}
use Rattle.ebr_running.specs.declared.running.Task.TheVariants as task
use Rattle.ebr_running.specs.Rest.{calls_at, first_flow, first_tasks, rest_of, resume, saved_of, outer, memory_of, operands_of}
use Rattle.ebr_running.specs.Rest as rest

-- ---- beginning a call

-- a package's body, where its specification is there too
abbrev pub body_unit : Book → List ℕ → Option compiled.Unit
body_unit book p = with_specification class.Body (book.unit (unit_key p)) (book.unit (body_key p))

-- the unit of a call
abbrev pub called_unit : Book → Callee → Option compiled.Unit
called_unit book f = with_specification f.unit.class (book.unit (unit_key f.unit.name)) (book.unit f.unit)

abbrev pub unless : Option Code → Option Code → Option Code
unless None d = d
unless (Some c) d = Some c

-- the code that passing a value to a parameter raises
abbrev pub unfit_for : Formal → Value → Option Code
unfit_for f v = if f.takes then unfit (Some f.ty) v else None

-- the code that passing values to parameters raises first
abbrev pub first_unfit : List Formal → List Value → Option Code
first_unfit fs [] = None
first_unfit [] (v ∷ vs) = None
first_unfit (f ∷ fs) (v ∷ vs) = unless (unfit_for f v) (first_unfit fs vs)

-- a call of a part, with so many makings and frames left
abbrev pub call_of : Book → ℕ → ℕ → Option Part → Callee → List Value → Runs
call_of book m zero p f vs σ = too_deep p σ
call_of book m (suc n) p f vs σ = enter p f (calls_at book m n) vs σ

-- the instruction that calls a part
abbrev pub called : Book → ℕ → ℕ → Option Part → Callee → Runs
called book m n p f σ = given_back f.results (call_of book m n p f (last f.arguments σ) (bare σ)) (above (beneath f.arguments σ))

-- a run whose memory is that of a subprogram with so many of the operands as arguments
abbrev pub with_arguments : ℕ → Running → Running
with_arguments n m = record m {
  variables = with_top (reverse (take n m.operands.top)) (opened m.variables);
  cursors = opened m.cursors;
  faults = opened m.faults;
  operands = opened (with_top (drop n m.operands.top) m.operands);
  frames_left = m.frames_left - 1;
}

abbrev pub called_from : compiled.Unit → ℕ → ℕ → ℕ → Caller
called_from u place results frames = record { unit = u; place = place; results = results; frames_left = frames }

-- a run that begins the subprogram whose memory it has
abbrev pub with_subprogram : compiled.Unit → Callee → ℕ → Subprogram → Running → Running
with_subprogram u f frames s m = record m {
  tasks = first_tasks s.autonomous s.function s.code (task.Call (called_from u f.place f.results frames) ∷ m.tasks);
  flow = first_flow s.autonomous;
  ask = ask.PushAuto;
  pending = pending.Done;
}

-- two runs do the same
abbrev pub GoesAs : Book → Running → Running → Type 0
GoesAs book a b = (asks : List Ask) (result_values : List Answer) → rest_of book a asks result_values ≡ rest_of book b asks result_values

-- what a subprogram has to do from a place on before these tasks
abbrev pub rest_tasks : Bool → List Instruction → ℕ → List Task → List Task
rest_tasks true code at ts = task.Rest code at ∷ task.Function ∷ ts
rest_tasks false code at ts = task.Rest code at ∷ ts

-- a function ends by RETURN
abbrev pub ending : Bool → Outcome → Outcome
ending true o = returned true o
ending false o = o

-- two codes do the same as all of a subprogram
abbrev pub LeavesAlike : List Instruction → List Instruction → Type 0
LeavesAlike a b = (p : Part) (m : Memory) (function : Bool) (calls : Calls) (σ : State) → left p m (ending function (run a calls σ)) ≡ left p m (ending function (run b calls σ))

-- whether nothing of a code is left at a place
abbrev pub ends_at : List Instruction → ℕ → Bool
ends_at code at = is_none (slice_get code at)

-- whether a subprogram is over: by RETURN, or at the end of its code, where a function raises
abbrev pub is_over : Flow → Bool → Bool → Bool
is_over flow.Returned function end = true
is_over flow.Normal function end = not function && end
is_over e function end = false

-- ---- the end of a call

-- whether a subprogram is left, and not by what was raised
abbrev pub leaves : Flow → Bool
leaves flow.Normal = true
leaves flow.Exit = true
leaves flow.Continue = true
leaves flow.Returned = true
leaves e = false

-- the values of the parameters that hand one back, the first of which is the variable at a place
abbrev pub handed : ℕ → List Formal → List Value → List Value
handed k [] vs = []
handed k (f ∷ fs) vs = if f.gives then at value.Null k vs ∷ handed (suc k) fs vs else handed (suc k) fs vs

-- all that a subprogram gives back
abbrev pub gives : Part → List Value → List Value → List Value
gives p operands variables = result_values p.function operands ++ handed 0 p.formals variables

-- a run that goes on with the memory beneath, but for the operands
abbrev pub closing_memory : Running → Running
closing_memory m = record m { variables = closed m.variables; cursors = closed m.cursors; faults = closed m.faults }

-- a run that goes on with the memory beneath
abbrev pub closing : Running → Running
closing m = record m { variables = closed m.variables; cursors = closed m.cursors; faults = closed m.faults; operands = closed m.operands }

-- new goes on where old left a subprogram, and takes so many of these values back
abbrev pub GoesBack : Running → Running → List Value → ℕ → Type 0
GoesBack old new vs results =
    (book : Book) (asks : List Ask) (result_values : List Answer)
    → rest_of book new asks result_values
    ≡ resume book old.makings_left old.frames_left old.tasks (outer (saved_of old)) (given_back results (ended Normal (back_in (memory_of (saved_of old)) vs (rest.state_of old asks result_values))) (above (operands_of (saved_of old))))

-- ---- packages

-- what makes a package: its body where one is visible
abbrev pub maker_of : Book → List ℕ → Option Stamp → Option compiled.Unit
maker_of book p None = book.unit (unit_key p)
maker_of book p (Some s) = body_unit book p

-- a reference under a trigger
abbrev pub under : Reference → Runs
under reference.Other σ = ended Normal σ
under reference.Data σ = raises (ebr 12) σ

-- the making of a package, with so many makings and frames left
abbrev pub making_at : Book → ℕ → ℕ → List ℕ → Runs
making_at book zero n p σ = broken σ
making_at book (suc m) n p σ = make ((parts_of book).making p) ((parts_of book).made p) p (calls_at book m n) σ

-- the instruction that refers to a package outside triggers, with so many makings and frames left
abbrev pub refers : Book → ℕ → ℕ → List ℕ → Runs
refers book m n p σ = then_run (refer_to (state_of p σ.packages) ((parts_of book).made p) p (making_at book m n p) (bare σ)) (holding σ.memory.operands)

-- the instruction that makes a package, with so many makings and frames left
abbrev pub makes : Book → ℕ → ℕ → List ℕ → Runs
makes book m n p σ = then_run (making_at book m n p (bare σ)) (holding σ.memory.operands)

-- the same where one is left, with so many makings and frames left inside
abbrev pub makes_inside : Book → ℕ → ℕ → List ℕ → Runs
makes_inside book m n p σ = then_run (make ((parts_of book).making p) ((parts_of book).made p) p (calls_at book m n) (bare σ)) (holding σ.memory.operands)

-- a machine that begins to make a package
abbrev pub making : List ℕ → List Instruction → Running → Running
making p code m = record m {
  variables = opened m.variables;
  cursors = opened m.cursors;
  faults = opened m.faults;
  operands = opened m.operands;
  makings_left = m.makings_left - 1;
  tasks = task.Rest code 0 ∷ task.Making p m.makings_left ∷ m.tasks;
}
