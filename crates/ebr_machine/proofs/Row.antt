-- Rows of operations that ask no book.
use Rattle.std.proofs.Common.{◌≡◌, ℕ, ◌+◌, List, ◌∷◌, true, drop, Some, None, refl, sym, ap, ◌∙◌}
use Rattle.std.specs.Prelude.{slice_get}
use Rattle.ebr_run.specs.Expressions.{Calls}
use Rattle.ebr_run.specs.State.{State, Runs, Outcome, broken, then_run}
use Rattle.ebr_code.specs.declared.instruction.Instruction.{Instruction}
use Rattle.ebr_code.specs.Books.{Book}
use Rattle.ebr_code.specs.Instructions.{Meaning, meaning_of, run}
use Rattle.ebr_running.specs.declared.running.Flow.{Flow}
use Rattle.ebr_running.specs.declared.running.Flow.TheVariants as flow
use Rattle.ebr_running.specs.declared.running.Running.{Running}
use Rattle.ebr_running.specs.declared.running.Task.TheVariants as task
use Rattle.ebr_running.specs.Rest.{Later, ActsIn, Computes, DoesIn, awake, calls, calls_at, later_of, resume, saved_of, state_of, stands_at}
use Rattle.ebr_running.proofs.Moving.{same_later, stands_where}
use Rattle.ebr_machine.specs.inside.Rows.{LeavesRest, Ran, is_normal}
use Rattle.ebr_machine.proofs.Laws.{run_at, run_past, then_nothing}

-- where it stands normally, what comes next begins
pub stands_normally : (m : Running) (σ : State) (k : Runs) → m.flow ≡ flow.Normal → then_run (stands_at m σ) k ≡ k σ
stands_normally m σ k e = ap (λ f. then_run (awake f m.fault m.ask m.pending m.lookup σ) k) e

pub normal_at : (e : Flow) → is_normal e ≡ true → e ≡ flow.Normal
normal_at flow.Normal h = refl
normal_at flow.Exit h = cc
normal_at flow.Continue h = cc
normal_at flow.Returned h = cc
normal_at flow.Raised h = cc
normal_at (flow.Stopped c) h = cc
normal_at flow.Waiting h = cc

pub no_calls : Calls
no_calls = record { call = λ f vs. broken; refer = λ r p. broken }

pub ran_more : (old mid new : Running) (place at : ℕ) (body : List Instruction) (i : Instruction) → Some i ≡ slice_get body at → mid.flow ≡ flow.Normal → Ran old mid place at body → Computes mid new (meaning_of i) → Ran old new place (at + 1) body
ran_more old mid new place at body i e n r c = record {
  later = same_later mid new (meaning_of i) c no_calls ∙ r.later;
  here = λ calls asks given.
      let σ = state_of mid asks given in
      ap (λ o. then_run o (run (drop (at + 1) body) calls)) (stands_where mid new (meaning_of i) c calls asks given)
      ∙ sym (run_at body at i calls σ e)
      ∙ sym (stands_normally mid σ (run (drop at body) calls) n)
      ∙ r.here calls asks given;
}

abbrev pub resumed : Book → Later → Outcome → Outcome
resumed book l o = resume book l.makings_left l.frames_left l.tasks l.saved o

abbrev pub calls_in : Book → Later → Calls
calls_in book l = calls_at book l.makings_left l.frames_left

-- what is behind the row begins
pub ran_on : (book : Book) (old mid new : Running) (place at : ℕ) (body : List Instruction) → mid.flow ≡ flow.Normal → Ran old mid place at body → DoesIn book mid new (run (drop at body) (calls book mid)) → DoesIn book old new (run (drop place body) (calls book old))
ran_on book old mid new place at body n r d asks given =
    let σ = state_of mid asks given in
    d asks given
    ∙ ap (λ (l : Later). resumed book l (run (drop at body) (calls_in book l) σ)) r.later
    ∙ ap (resumed book (later_of old)) (sym (stands_normally mid σ (run (drop at body) (calls book old)) n) ∙ r.here (calls book old) asks given)

-- what is behind the row is left for later
pub ran_up : (book : Book) (old mid new : Running) (place at : ℕ) (body : List Instruction) → new ≡ record mid { tasks = task.Rest body at ∷ mid.tasks } → Ran old mid place at body → DoesIn book old new (run (drop place body) (calls book old))
ran_up book old mid new place at body e r asks given =
    let σ = state_of mid asks given in
    ap (λ (m : Running). resumed book (later_of m) (stands_at m (state_of m asks given))) e
    ∙ ap (λ (l : Later). resumed book l (then_run (stands_at mid σ) (run (drop at body) (calls_in book l)))) r.later
    ∙ ap (resumed book (later_of old)) (r.here (calls book old) asks given)

-- ---- what is left for later

pub leaves_nothing : (old : Running) (body : List Instruction) (at : ℕ) → None ≡ slice_get body at → LeavesRest old old body at
leaves_nothing old body at e = record {
  same = refl;
  later = λ book m n s o.
      ap (resume book m n old.tasks s) (sym (then_nothing o) ∙ ap (then_run o) (λ i σ. sym (run_past body at (calls_at book m n) σ e) i));
}

-- what begins before it
pub before_rest : (book : Book) (old mid new : Running) (body : List Instruction) (at : ℕ) (m : Meaning) → LeavesRest old mid body at → ActsIn book mid new m → DoesIn book old new (λ σ. then_run (m (calls book old) σ) (run (drop at body) (calls book old)))
before_rest book old mid new body at m l acts asks given =
    acts asks given
    ∙ ap (λ (x : Running). resume book x.makings_left x.frames_left mid.tasks (saved_of x) (m (calls book x) (state_of x asks given))) l.same
    ∙ l.later book old.makings_left old.frames_left (saved_of old) (m (calls book old) (state_of old asks given))
