-- Subprograms of which the first instructions were done at once.
use Rattle.std.proofs.Common.{◌≡◌, ℕ, Bool, true, false, List, [], ◌∷◌, length, drop, map, Option, Some, None, refl, sym, ap, ◌∙◌, arith, rules}
use Rattle.std.specs.Prelude.{slice_get}
use Rattle.std.specs.Option.{is_none}
use Rattle.ebr_asks.specs.declared.ask.Ask.{Ask}
use Rattle.ebr_asks.specs.declared.ask.Ask.TheVariants as ask
use Rattle.ebr_asks.specs.declared.answer.Answer.{Answer}
use Rattle.ebr_run.specs.declared.callee.Callee.{Callee}
use Rattle.ebr_run.specs.declared.fault.Fault.{Fault}
use Rattle.ebr_run.specs.State.{State, Memory, Outcome, End, Normal, Exit, Continue, Returned, Raised, Stopped, Waiting, ended, raises, caught, then_run}
use Rattle.ebr_run.specs.Calls.{Part, left}
use Rattle.ebr_run.specs.Expressions.{Calls, given_back}
use Rattle.ebr_code.specs.declared.book.Subprogram.{Subprogram}
use Rattle.ebr_code.specs.declared.book.Unit as compiled
use Rattle.ebr_code.specs.declared.instruction.Handler.{Handler}
use Rattle.ebr_code.specs.declared.instruction.Instruction.{Instruction, Guard}
use Rattle.ebr_code.specs.declared.instruction.Instruction.TheOpen as form
use Rattle.ebr_code.specs.declared.instruction.Lookup.{Lookup}
use Rattle.ebr_code.specs.Books.{Book}
use Rattle.ebr_code.specs.Instructions.{Meaning, above, act, handling_of, meaning_of, run}
use Rattle.ebr_code.proofs.Layers.{meaning_of-Guard}
use Rattle.ebr_running.specs.declared.running.Flow.{Flow}
use Rattle.ebr_running.specs.declared.running.Flow.TheVariants as flow
use Rattle.ebr_running.specs.declared.running.Pending.{Pending}
use Rattle.ebr_running.specs.declared.running.Pending.TheVariants as pending
use Rattle.ebr_running.specs.declared.running.Running.{Running}
use Rattle.ebr_running.specs.declared.running.Task.{Task}
use Rattle.ebr_running.specs.declared.running.Task.TheVariants as task
use Rattle.ebr_running.specs.Rest.{Later, Follows, awake, calls_at, end_of, first_flow, first_tasks, later_of, memory_of, operands_of, outer, part_in, rest_of, resume, saved_of, state_of, stands_at}
use Rattle.ebr_machine.specs.inside.Callees.{GoesAs, LeavesAlike, called_from, ending, ends_at, is_over, rest_tasks, with_subprogram}
use Rattle.ebr_machine.specs.inside.Rows.{Ran}
use Rattle.ebr_machine.proofs.Laws.{run_past}

-- what is left of a subprogram behind a row of its instructions
abbrev behind : Book → Later → Bool → List Instruction → ℕ → List Task → Outcome → Outcome
behind book l function code at ts o = resume book l.makings_left l.frames_left ts l.saved (ending function (then_run o (run (drop at code) (calls_at book l.makings_left l.frames_left))))

by_tasks : (book : Book) (l : Later) (function : Bool) (code : List Instruction) (at : ℕ) (ts : List Task) (o : Outcome)
    → resume book l.makings_left l.frames_left (rest_tasks function code at ts) l.saved o ≡ behind book l function code at ts o
by_tasks book l true code at ts o = refl
by_tasks book l false code at ts o = refl

-- the same where the subprogram begins
begins_so : (book : Book) (l : Later) (autonomous function : Bool) (code : List Instruction) (ts : List Task) (f : Fault) (k : Lookup) (σ : State) → autonomous ≡ false
    → resume book l.makings_left l.frames_left (first_tasks autonomous function code ts) l.saved (awake (first_flow autonomous) f ask.PushAuto pending.Done k σ)
    ≡ resume book l.makings_left l.frames_left ts l.saved (ending function (run code (calls_at book l.makings_left l.frames_left) σ))
begins_so book l true function code ts f k σ h = cc
begins_so book l false true code ts f k σ h = refl
begins_so book l false false code ts f k σ h = refl

pub none_at : (o : Option Instruction) → is_none o ≡ true → None ≡ o
none_at None h = refl
none_at (Some i) h = cc

-- a subprogram that is over leaves nothing behind the row
over_as : (e : Flow) (function : Bool) (code : List Instruction) (at : ℕ) (calls : Calls) (f : Fault) (q : Ask) (p : Pending) (k : Lookup) (σ : State) → is_over e function (ends_at code at) ≡ true
    → ended (end_of e f) σ ≡ ending function (then_run (awake e f q p k σ) (run (drop at code) calls))
over_as flow.Returned true code at calls f q p k σ h = refl
over_as flow.Returned false code at calls f q p k σ h = refl
over_as flow.Normal true code at calls f q p k σ h = cc
over_as flow.Normal false code at calls f q p k σ h = sym (run_past code at calls σ (none_at (slice_get code at) h))
over_as flow.Exit function code at calls f q p k σ h = cc
over_as flow.Continue function code at calls f q p k σ h = cc
over_as flow.Raised function code at calls f q p k σ h = cc
over_as (flow.Stopped c) function code at calls f q p k σ h = cc
over_as flow.Waiting function code at calls f q p k σ h = cc

-- ---- statements without handlers

unguarded_as : (function : Bool) (e : End) (p : Part) (m : Memory) (σ : State) → left p m (ending function (ended e σ)) ≡ left p m (ending function (then_run (caught (ended e σ) raises) (ended Normal)))
unguarded_as true Normal p m σ = refl
unguarded_as true Exit p m σ = refl
unguarded_as true Continue p m σ = refl
unguarded_as true Returned p m σ = refl
unguarded_as true (Raised f) p m σ = refl
unguarded_as true (Stopped c) p m σ = refl
unguarded_as true Waiting p m σ = refl
unguarded_as false Normal p m σ = refl
unguarded_as false Exit p m σ = refl
unguarded_as false Continue p m σ = refl
unguarded_as false Returned p m σ = refl
unguarded_as false (Raised f) p m σ = refl
unguarded_as false (Stopped c) p m σ = refl
unguarded_as false Waiting p m σ = refl

none_in : (hs : List Handler) → length hs ≡ 0 → hs ≡ []
none_in [] h = refl
none_in (x ∷ hs) h = cc

pub same_code : (code : List Instruction) → LeavesAlike code code
same_code code p m function calls σ = refl

pub guarded_alone : (code body : List Instruction) (i : Instruction) (k : ℕ) (hs : List Handler) → code ≡ i ∷ [] → i ≡ Guard body k hs → length hs ≡ 0 → LeavesAlike body code
guarded_alone code body i k hs e g h p m function calls σ =
    let o = run body calls σ in
    let means : meaning_of i ≡ act (form.Guard (map meaning_of body) k []) = ap meaning_of g ∙ meaning_of-Guard body k hs ∙ ap (λ xs. act (form.Guard (map meaning_of body) k (map handling_of xs))) (none_in hs h) in
    unguarded_as function o.end p m o.state
    ∙ ap (λ (x : Meaning). left p m (ending function (then_run (x calls σ) (ended Normal)))) (sym means)
    ∙ ap (λ is. left p m (ending function (run is calls σ))) (sym e)

-- the one instruction of a code
pub only_one : (code : List Instruction) (i : Instruction) → Some i ≡ slice_get code 0 → length code ≡ 1 → code ≡ i ∷ []
only_one [] i e h = cc
only_one (x ∷ []) i e h = search (rules, e)
only_one (x ∷ y ∷ is) i e h = absurd (omega (arith, h))

-- ---- what a call goes on with

module _ (book : Book) (old mid new : Running) (u : compiled.Unit) (callee : Callee) (frames : ℕ) (s : Subprogram) (body : List Instruction) (at : ℕ) where
  abbrev end : Task
  end = task.Call (called_from u callee.place callee.results frames)

  goes_on : s.autonomous ≡ false → LeavesAlike body s.code → Ran old mid 0 at body → (asks : List Ask) (given : List Answer)
      → behind book (later_of mid) s.function body at (end ∷ mid.tasks) (stands_at mid (state_of mid asks given)) ≡ rest_of book (with_subprogram u callee frames s old) asks given
  goes_on a alike r asks given =
      let calls = calls_at book old.makings_left old.frames_left in
      let saved = saved_of old in
      ap (λ (l : Later). behind book l s.function body at (end ∷ l.tasks) (stands_at mid (state_of mid asks given))) r.later
      ∙ ap (λ (o : Outcome). resume book old.makings_left old.frames_left (end ∷ old.tasks) saved (ending s.function o)) (r.here calls asks given)
      ∙ ap (λ (o : Outcome). resume book old.makings_left frames old.tasks (outer saved) (given_back callee.results o (above (operands_of saved)))) (alike (part_in u callee.place) (memory_of saved) s.function calls (state_of old asks given))
      ∙ sym (begins_so book (later_of old) s.autonomous s.function s.code (end ∷ old.tasks) old.fault old.lookup (state_of old asks given) a)

  -- what is left of it is left for later
  pub left_later : new ≡ record mid { tasks = rest_tasks s.function body at (end ∷ mid.tasks) } → s.autonomous ≡ false → LeavesAlike body s.code → Ran old mid 0 at body → GoesAs book new (with_subprogram u callee frames s old)
  left_later e a alike r asks given =
      ap (λ (m : Running). rest_of book m asks given) e
      ∙ by_tasks book (later_of mid) s.function body at (end ∷ mid.tasks) (stands_at mid (state_of mid asks given))
      ∙ goes_on a alike r asks given

  -- it is over, and so is the call
  pub over_now : is_over mid.flow s.function (ends_at body at) ≡ true → s.autonomous ≡ false → LeavesAlike body s.code → Ran old mid 0 at body → Follows mid new (end ∷ mid.tasks) → GoesAs book new (with_subprogram u callee frames s old)
  over_now o a alike r follows asks given =
      follows book asks given
      ∙ ap (resume book mid.makings_left mid.frames_left (end ∷ mid.tasks) (saved_of mid)) (over_as mid.flow s.function body at (calls_at book mid.makings_left mid.frames_left) mid.fault mid.ask mid.pending mid.lookup (state_of mid asks given) o)
      ∙ goes_on a alike r asks given
