-- What is left to do of loops, of which some turns were done at once.
use Rattle.std.proofs.Common.{◌≡◌, ℕ, suc, Bool, true, false, if◌then◌else◌, List, [], ◌∷◌, drop, refl, sym, ap, ◌∙◌}
use Rattle.std.specs.Prelude.{nat_lt, slice_get}
use Rattle.ebr_base.specs.declared.code.Code.TheVariants.{Ebr}
use Rattle.ebr_asks.specs.declared.ask.Ask.{Ask}
use Rattle.ebr_asks.specs.declared.answer.Answer.{Answer}
use Rattle.ebr_run.specs.declared.fault.Fault.{Fault}
use Rattle.ebr_run.specs.Expressions.{Calls}
use Rattle.ebr_run.specs.State.{State, Outcome, Runs, after_turn, bare, done, loop, step, stops, then_run}
use Rattle.ebr_code.specs.declared.instruction.Instruction.{Instruction}
use Rattle.ebr_code.specs.declared.instruction.Lookup.{Lookup}
use Rattle.ebr_code.specs.declared.instruction.Operation.TheVariants as does
use Rattle.ebr_code.specs.Books.{Book}
use Rattle.ebr_code.specs.Instructions.{operate, run}
use Rattle.ebr_memory.specs.Levels.{with_top}
use Rattle.ebr_running.specs.declared.running.Flow.{Flow}
use Rattle.ebr_running.specs.declared.running.Flow.TheVariants as flow
use Rattle.ebr_running.specs.declared.running.Pending.{Pending}
use Rattle.ebr_running.specs.declared.running.Running.{Running}
use Rattle.ebr_running.specs.declared.running.Task.TheVariants as task
use Rattle.ebr_running.specs.Rest.{Later, Computes, awake, calls, later_of, rest_of, rest_of_turn, state_of, stands_at}
use Rattle.ebr_running.proofs.CallsRise.{loop_run}
use Rattle.ebr_running.proofs.Moving.{same_later, stands_where}
use Rattle.ebr_machine.specs.inside.Callees.{ends_at}
use Rattle.ebr_machine.specs.inside.Rows.{Ran}
use Rattle.ebr_machine.specs.inside.Turns.{Again, Stepped, Turned, loop_in, turn_ends, turn_in, with_next}
use Rattle.ebr_machine.proofs.Laws.{run_past}
use Rattle.ebr_machine.proofs.Over.{none_at}
use Rattle.ebr_machine.proofs.Row.{calls_in, no_calls, resumed, stands_normally}

-- a loop goes on behind a code that is done
ends_as : (e : Flow) (code : List Instruction) (at : ℕ) (calls : Calls) (f : Fault) (q : Ask) (p : Pending) (k : Lookup) (σ : State) (next : Runs) → turn_ends e (ends_at code at) ≡ true
    → next σ ≡ after_turn (then_run (awake e f q p k σ) (run (drop at code) calls)) next
ends_as flow.Normal code at calls f q p k σ next h = ap (λ (o : Outcome). after_turn o next) (sym (run_past code at calls σ (none_at (slice_get code at) h)))
ends_as flow.Continue code at calls f q p k σ next h = refl
ends_as flow.Exit code at calls f q p k σ next h = cc
ends_as flow.Returned code at calls f q p k σ next h = cc
ends_as flow.Raised code at calls f q p k σ next h = cc
ends_as (flow.Stopped c) code at calls f q p k σ next h = cc
ends_as flow.Waiting code at calls f q p k σ next h = cc

-- ---- the head

abbrev pub emptied : Running → Running
emptied m = record m { operands = with_top [] m.operands }

-- where it is done, the rest of the turn begins
head_ends : (old mid : Running) (head body : List Instruction) (at : ℕ) → turn_ends mid.flow (ends_at head at) ≡ true → Ran (emptied old) mid 0 at head
    → (book : Book) (asks : List Ask) (given : List Answer) → with_next book mid (turn_in head body book mid) asks given ≡ with_next book old (loop_in head body book old) asks given
head_ends old mid head body at h r book asks given =
    let σ = state_of mid asks given in
    let can = calls book old in
    let next : Runs = rest_of_turn (run head can) (run body can) in
    ap (λ (l : Later). resumed book l (rest_of_turn (run head (calls_in book l)) (run body (calls_in book l)) σ)) r.later
    ∙ ap (resumed book (later_of old))
    (ends_as mid.flow head at can mid.fault mid.ask mid.pending mid.lookup σ next h
    ∙ ap (λ (o : Outcome). after_turn o next) (r.here can asks given)
    ∙ sym (loop_run book old.makings_left old.frames_left head body (state_of old asks given)))

turned_onto : (more : Bool) (old mid new : Running) (head body : List Instruction) → ((book : Book) (asks : List Ask) (given : List Answer) → with_next book mid (turn_in head body book mid) asks given ≡ with_next book old (loop_in head body book old) asks given)
    → Turned more mid new head body turn_in → Turned more old new head body loop_in
turned_onto true old mid new head body h t = record { flow = t.flow; goes = λ book asks given. t.goes book asks given ∙ h book asks given }
turned_onto false old mid new head body h t = λ book asks given. t book asks given ∙ h book asks given

pub behind_head : (more : Bool) (old mid new : Running) (head body : List Instruction) (at : ℕ) → turn_ends mid.flow (ends_at head at) ≡ true → Ran (emptied old) mid 0 at head
    → Turned more (record mid { flow = flow.Normal }) new head body turn_in → Turned more old new head body loop_in
behind_head more old mid new head body at h r t = turned_onto more old (record mid { flow = flow.Normal }) new head body (head_ends old mid head body at h r) t

-- else the rest of it is left for later
pub head_left : (old mid new : Running) (head body : List Instruction) (at : ℕ) → new ≡ record mid { tasks = task.Rest head at ∷ task.Head head body ∷ mid.tasks } → Ran (emptied old) mid 0 at head
    → Turned false old new head body loop_in
head_left old mid new head body at e r book asks given =
    let σ = state_of mid asks given in
    let can = calls book old in
    let next : Runs = rest_of_turn (run head can) (run body can) in
    ap (λ (m : Running). rest_of book m asks given) e
    ∙ ap (λ (l : Later). resumed book l (after_turn (then_run (stands_at mid σ) (run (drop at head) (calls_in book l))) (rest_of_turn (run head (calls_in book l)) (run body (calls_in book l))))) r.later
    ∙ ap (resumed book (later_of old)) (ap (λ (o : Outcome). after_turn o next) (r.here can asks given) ∙ sym (loop_run book old.makings_left old.frames_left head body (state_of old asks given)))

-- ---- the step and the body

step_by : (b : Bool) (σ τ : State) (body next : Runs) → τ ≡ bare τ → after_turn (then_run (if b then done τ else stops (Ebr 7) σ) body) next ≡ (if b then after_turn (body τ) next else stops (Ebr 7) σ)
step_by true σ τ body next e = ap (λ τ. after_turn (body τ) next) (sym e)
step_by false σ τ body next e = refl

step_turn : (σ : State) (body next : Runs) → after_turn (then_run (step σ done) body) next ≡ step σ (λ τ. after_turn (body τ) next)
step_turn σ body next = step_by (nat_lt σ.steps σ.left) (record σ { steps = suc σ.steps }) (record (bare σ) { steps = suc σ.steps }) body next refl

pub only_step : (old new : Running) (body : List Instruction) → Computes old new (operate does.Step) → Stepped old new 0 body
only_step old new body c = record {
  later = same_later old new (operate does.Step) c no_calls;
  here = λ calls asks given. ap (λ o. then_run o (run body calls)) (stands_where old new (operate does.Step) c calls asks given);
}

pub step_on : (old mid new : Running) (at : ℕ) (body : List Instruction) → mid.flow ≡ flow.Normal → Computes old mid (operate does.Step) → Ran mid new 0 at body → Stepped old new at body
step_on old mid new at body n c r = record {
  later = r.later ∙ same_later old mid (operate does.Step) c no_calls;
  here = λ calls asks given.
      r.here calls asks given
      ∙ sym (stands_normally mid (state_of mid asks given) (run body calls) n)
      ∙ ap (λ o. then_run o (run body calls)) (stands_where old mid (operate does.Step) c calls asks given);
}

-- where the body is done, the loop begins again
pub turn_again : (old mid : Running) (head body : List Instruction) (at : ℕ) → turn_ends mid.flow (ends_at body at) ≡ true → Stepped old mid at body → Turned true old (record mid { flow = flow.Normal }) head body turn_in
turn_again old mid head body at h s = record {
  flow = refl;
  goes = λ book asks given.
      let σ = state_of mid asks given in
      let can = calls book old in
      let next : Runs = loop (run head can) (run body can) in
      ap (λ (l : Later). resumed book l (loop (run head (calls_in book l)) (run body (calls_in book l)) σ)) s.later
      ∙ ap (resumed book (later_of old))
      (ends_as mid.flow body at can mid.fault mid.ask mid.pending mid.lookup σ next h
      ∙ ap (λ (o : Outcome). after_turn o next) (s.here can asks given)
      ∙ step_turn (state_of old asks given) (run body can) next);
}

-- else the rest of it is left for later
pub turn_left : (old mid new : Running) (head body : List Instruction) (at : ℕ) → new ≡ record mid { tasks = task.Rest body at ∷ task.Loop head body ∷ mid.tasks } → Stepped old mid at body → Turned false old new head body turn_in
turn_left old mid new head body at e s book asks given =
    let σ = state_of mid asks given in
    let can = calls book old in
    let next : Runs = loop (run head can) (run body can) in
    ap (λ (m : Running). rest_of book m asks given) e
    ∙ ap (λ (l : Later). resumed book l (after_turn (then_run (stands_at mid σ) (run (drop at body) (calls_in book l))) (loop (run head (calls_in book l)) (run body (calls_in book l))))) s.later
    ∙ ap (resumed book (later_of old)) (ap (λ (o : Outcome). after_turn o next) (s.here can asks given) ∙ step_turn (state_of old asks given) (run body can) next)

-- ---- the turns

-- where a turn is behind so many, they are behind it
pub turns_on : (more : Bool) (old mid new : Running) (head body : List Instruction) → Again old mid head body loop_in → Turned more mid new head body loop_in → Turned more old new head body loop_in
turns_on true old mid new head body a t = record { flow = t.flow; goes = λ book asks given. t.goes book asks given ∙ a.goes book asks given }
turns_on false old mid new head body a t = λ book asks given. t book asks given ∙ a.goes book asks given
