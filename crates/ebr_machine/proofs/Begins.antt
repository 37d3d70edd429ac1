-- A machine at its beginning.
use Rattle.std.proofs.Common.{◌≡◌, ℕ, ◌+◌, Bool, true, false, if◌then◌else◌, List, [], ◌∷◌, ◌++◌, Option, Some, None, option_map, refl, sym, ap, ◌∙◌}
use Rattle.std.specs.Prelude.{nat_lt, slice_get}
use Rattle.ebr_base.specs.declared.code.Code.{Code}
use Rattle.ebr_base.specs.declared.code.Code.TheVariants.{Ebr}
use Rattle.ebr_base.specs.declared.value.Value.{Value}
use Rattle.ebr_asks.specs.declared.ask.Ask.{Ask}
use Rattle.ebr_asks.specs.declared.ask.Ask.TheVariants as ask
use Rattle.ebr_asks.specs.declared.answer.Answer.{Answer}
use Rattle.ebr_asks.specs.declared.answer.Answer.TheVariants as answer
use Rattle.ebr_run.specs.declared.fault.Fault.{Fault}
use Rattle.ebr_run.specs.declared.fault.Fault.TheVariants as fault
use Rattle.ebr_run.specs.Faults.{is_uncatchable}
use Rattle.ebr_run.specs.Packages.{PackageState}
use Rattle.ebr_run.specs.State as run
use Rattle.ebr_run.specs.State.{Memory, State, Outcome, End, Runs, bare, with_memory, ended, done, raises, stops, broken, then_run, refused, spent, next_answer, asked, when_done}
use Rattle.ebr_run.specs.Calls.{Part, left_on, left, returned_on, returned, body, fresh}
use Rattle.ebr_run.specs.Run.{seen, start, run_part}
use Rattle.ebr_code.specs.declared.instruction.Instruction.{Instruction}
use Rattle.ebr_code.specs.declared.instruction.Lookup.{Lookup}
use Rattle.ebr_code.specs.declared.book.Subprogram.{Subprogram}
use Rattle.ebr_code.specs.declared.book.Unit as compiled
use Rattle.ebr_code.specs.Books.{Book}
use Rattle.ebr_code.specs.Instructions.{run as runs}
use Rattle.ebr_code.specs.Runs.{part_of, parts_of, RunCode}
use Rattle.ebr_running.specs.declared.running.Pending.TheVariants as pending
use Rattle.ebr_running.specs.declared.running.Task.{Task}
use Rattle.ebr_machine.specs.declared.machine.Frame.{Frame}
use Rattle.ebr_machine.specs.declared.machine.Machine.{Machine}
use Rattle.ebr_running.specs.Rest.{Saved, calls_at, by_itself, resume, awake, beginning, first_flow, first_tasks, stands}
use Rattle.ebr_machine.specs.Has.{frame_of, Has}

-- ---- asks that are answered Done

refused_then : (b : Bool) (c : Code) (σ : State) (k : Runs) → (if b then stops c σ else raises (fault.Code c) σ) ≡ then_run (if b then stops c σ else raises (fault.Code c) σ) k
refused_then true c σ k = refl
refused_then false c σ k = refl

spent_then : (b : Bool) (σ : State) (o : Outcome) (k : Runs) → o ≡ then_run o k → (if b then stops (Ebr 7) σ else o) ≡ then_run (if b then stops (Ebr 7) σ else o) k
spent_then true σ o k e = refl
spent_then false σ o k e = e

done_then : (given : List Answer) (σ : State) (k : Runs) → next_answer given σ (λ a. when_done a (λ τ. k (bare τ))) ≡ then_run (next_answer given σ (λ a. when_done a done)) k
done_then [] σ k = refl
done_then (answer.Done ∷ given) σ k = refl
done_then (answer.Count n steps ls ∷ given) σ k = let τ = spent steps ls (record σ { answers = given }) in spent_then (nat_lt σ.left (σ.steps + steps)) τ (broken τ) k refl
done_then (answer.Refused c steps ls ∷ given) σ k = let τ = spent steps ls (record σ { answers = given }) in spent_then (nat_lt σ.left (σ.steps + steps)) τ (refused c τ) k (refused_then (is_uncatchable c) c τ k)
done_then (answer.View v ∷ given) σ k = refl
done_then (answer.Rows rows ∷ given) σ k = refl
done_then (answer.Invalid ∷ given) σ k = refl
done_then (answer.DiskFault ∷ given) σ k = refl
done_then (answer.NoMemory ∷ given) σ k = refl
done_then (answer.Stopped ∷ given) σ k = refl

-- what begins when an ask is answered Done
pub asked_then : (q : Ask) (σ : State) (k : Runs) → asked q σ (λ a. when_done a (λ τ. k (bare τ))) ≡ then_run (asked q σ (λ a. when_done a done)) k
asked_then q σ k = done_then σ.answers (record σ { asks = σ.asks ++ q ∷ [] }) k

-- ---- the end of the unit that runs

pub returned_as : (e : End) (o : Outcome) → returned_on e false o ≡ o
returned_as run.Normal o = refl
returned_as run.Exit o = refl
returned_as run.Continue o = refl
returned_as run.Returned o = refl
returned_as (run.Raised f) o = refl
returned_as (run.Stopped c) o = refl
returned_as run.Waiting o = refl

seen_left_on : (e : End) (p : Part) (m : Memory) (σ : State) → seen (left_on e p m (ended e σ)) ≡ seen (ended e σ)
seen_left_on run.Normal p m σ = refl
seen_left_on run.Exit p m σ = refl
seen_left_on run.Continue p m σ = refl
seen_left_on run.Returned p m σ = refl
seen_left_on (run.Raised f) p m σ = refl
seen_left_on (run.Stopped c) p m σ = refl
seen_left_on run.Waiting p m σ = refl

-- leaving it changes nothing that is seen
seen_left : (p : Part) (m : Memory) (o : Outcome) → seen (left p m o) ≡ seen o
seen_left p m o = seen_left_on o.end p m o.state

-- ---- beginnings

-- what is left to do where a subprogram begins
abbrev at_first : Book → ℕ → ℕ → Bool → Bool → List Instruction → List Task → Saved → Fault → Lookup → State → Outcome
at_first book m n autonomous function code ts s f l σ = resume book m n (first_tasks autonomous function code ts) s (awake (first_flow autonomous) f ask.PushAuto pending.Done l σ)

pub first_body : (book : Book) (m n : ℕ) (autonomous function : Bool) (code : List Instruction) (ts : List Task) (s : Saved) (f : Fault) (l : Lookup) (σ : State) → bare σ ≡ σ
    → at_first book m n autonomous function code ts s f l σ ≡ resume book m n ts s (run.by_itself autonomous (λ τ. returned function (runs code (calls_at book m n) (bare τ))) σ)
first_body book m n true function code ts s f l σ e = ap (resume book m n ts s) (sym (asked_then ask.PushAuto σ (by_itself function (runs code (calls_at book m n)))))
first_body book m n false true code ts s f l σ e = ap (λ τ. resume book m n ts s (returned true (runs code (calls_at book m n) τ))) (sym e)
first_body book m n false false code ts s f l σ e =
    let o = runs code (calls_at book m n) σ in
    ap (resume book m n ts s) (sym (returned_as o.end o) ∙ ap (λ τ. returned false (runs code (calls_at book m n) τ)) (sym e))

unit_begins : (book : Book) (main : Option Subprogram) (s : Saved) (f : Fault) (l : Lookup) (σ : State) (arguments : List Value)
    → seen (resume book book.objects 999 (beginning main).1 s (awake (beginning main).0 f ask.PushAuto pending.Done l (with_memory (fresh arguments) σ))) ≡ seen (run_part (option_map part_of main) (parts_of book) arguments σ)
unit_begins book None s f l σ arguments = refl
unit_begins book (Some main) s f l σ arguments =
    let first = with_memory (fresh arguments) σ in
    ap seen (first_body book book.objects 999 main.autonomous main.function main.code [] s f l first refl) ∙ sym (seen_left (part_of main) σ.memory (body (part_of main) (calls_at book book.objects 999) first))

pub begun : (book : Book) (m : Machine) (packages : List PackageState) (most : ℕ) (u : compiled.Unit) (arguments : List Value) (frame : Frame)
    → m.begun ≡ false → m.arrived ≡ None → (m.inner.flow, m.inner.tasks) ≡ beginning (slice_get u.subprograms 0)
    → m.inner.variables ≡ record { top = arguments; beneath = [] } → m.inner.cursors ≡ record { top = []; beneath = [] } → m.inner.faults ≡ record { top = []; beneath = [] } → m.inner.operands ≡ record { top = []; beneath = [] }
    → m.inner.row ≡ frame.body → m.inner.affected ≡ None → m.inner.lines ≡ [] → m.inner.room ≡ frame.room → m.inner.steps ≡ 0 → m.inner.frames_left ≡ 999 → m.inner.ask ≡ ask.PushAuto → m.inner.pending ≡ pending.Done
    → Has book m packages most (RunCode book u arguments packages (frame_of frame) most) [] []
unfolding RunCode
begun book m packages most u arguments frame z a b e1 e2 e3 e4 e5 e6 e7 e8 e9 e10 e11 e12 = record {
  by = λ given.
      ap seen (λ i. stands book (record {
        variables = e1 i;
        cursors = e2 i;
        faults = e3 i;
        operands = e4 i;
        packages = packages;
        row = e5 i;
        affected = e6 i;
        lines = e7 i;
        room = e8 i;
        steps = e9 i;
        left = if z i then m.inner.left else most;
        makings_left = if z i then m.inner.makings_left else book.objects;
        frames_left = e10 i;
        tasks = (b i).1;
        flow = (b i).0;
        fault = m.inner.fault;
        ask = e11 i;
        pending = e12 i;
        lookup = m.inner.lookup;
      }) (a i) [] given)
      ∙ unit_begins book (slice_get u.subprograms 0) (record { variables = []; cursors = []; faults = []; operands = [] }) m.inner.fault m.inner.lookup (start packages (frame_of frame) most given) arguments;
}
