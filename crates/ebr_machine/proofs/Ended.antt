-- What is left to do where a subprogram ends.
use Rattle.std.proofs.Common.{◌≡◌, ℕ, suc, true, if◌then◌else◌, List, [], ◌∷◌, ◌++◌, refl, sym, ap, subst, ◌∙◌}
use Rattle.ebr_base.specs.declared.value.Value.{Value}
use Rattle.ebr_run.specs.declared.fault.Fault.{Fault}
use Rattle.ebr_run.specs.State.{State, Outcome, Memory, Normal, ended}
use Rattle.ebr_run.specs.Values.{variable}
use Rattle.ebr_run.specs.Expressions.{given_back}
use Rattle.ebr_run.specs.Calls.{Formal, Part, handed_back, result_values, back_in, left}
use Rattle.ebr_code.specs.Instructions.{above}
use Rattle.ebr_memory.specs.Levels.{Levels, with_top}
use Rattle.ebr_running.specs.declared.running.Caller.{Caller}
use Rattle.ebr_running.specs.declared.running.Flow.{Flow}
use Rattle.ebr_running.specs.declared.running.Flow.TheVariants as flow
use Rattle.ebr_running.specs.declared.running.Running.{Running}
use Rattle.ebr_running.specs.declared.running.Task.TheVariants as task
use Rattle.ebr_running.specs.Rest.{Follows, part_in, end_of, memory_of, outer, operands_of, resume, saved_of, state_of}
use Rattle.ebr_machine.specs.inside.Callees.{leaves, handed, gives, GoesBack}

handed_as : (k : ℕ) (fs : List Formal) (σ : State) → handed_back k fs σ ≡ handed k fs σ.memory.variables
handed_as k [] σ = refl
handed_as k (f ∷ fs) σ = ap (λ vs. if f.gives then variable k σ ∷ vs else vs) (handed_as (suc k) fs σ)

-- a subprogram that is left, and not by what was raised
left_as : (e : Flow) (f : Fault) (p : Part) (m : Memory) (σ : State) → leaves e ≡ true → left p m (ended (end_of e f) σ) ≡ ended Normal (back_in m (result_values p.function σ.memory.operands ++ handed_back 0 p.formals σ) σ)
left_as flow.Normal f p m σ h = refl
left_as flow.Exit f p m σ h = refl
left_as flow.Continue f p m σ h = refl
left_as flow.Returned f p m σ h = refl
left_as flow.Raised f p m σ h = cc
left_as (flow.Stopped c) f p m σ h = cc
left_as flow.Waiting f p m σ h = cc

-- what the caller goes on with, whatever the subprogram's operands have become
abbrev back : Running → Caller → Levels Value → Running
back m c operands = record m { frames_left = c.frames_left; operands = operands }

pub call_left : (old new : Running) (c : Caller) (operands : Levels Value) → leaves old.flow ≡ true → operands ≡ with_top (gives (part_in c.unit c.place) old.operands.top old.variables.top) old.operands
    → GoesBack (back old c operands) new operands.top c.results → Follows old new (task.Call c ∷ old.tasks)
call_left old new c operands h kept goes book asks answers =
    let p = part_in c.unit c.place in
    let s = saved_of old in
    let σ = state_of old asks answers in
    subst (λ (o : Levels Value). GoesBack (back old c o) new o.top c.results) kept goes book asks answers
    ∙ ap (λ (o : Outcome). resume book old.makings_left c.frames_left old.tasks (outer s) (given_back c.results o (above (operands_of s))))
    (ap (λ xs. ended Normal (back_in (memory_of s) (result_values p.function σ.memory.operands ++ xs) σ)) (sym (handed_as 0 p.formals σ)) ∙ sym (left_as old.flow old.fault p (memory_of s) σ h))
