-- How many answers is taken by what is left of a run, and by a whole run.
use Rattle.std.proofs.Common.{◌≡◌, ℕ, zero, suc, ◌≤◌, Bool, true, List, [], ◌∷◌, ◌++◌, length, map, drop, Option, Some, None, refl, sym, ap, subst, ◌∙◌, arith, append-nil, length-append}
use Rattle.std.specs.Prelude.{slice_get}
use Rattle.ebr_base.specs.declared.value.Value.{Value}
use Rattle.ebr_base.specs.declared.value.Value.TheVariants as value
use Rattle.ebr_asks.specs.declared.ask.Ask.{Ask}
use Rattle.ebr_asks.specs.declared.answer.Answer.{Answer}
use Rattle.ebr_run.specs.declared.fault.Fault.{Fault}
use Rattle.ebr_run.specs.Cursors.{Closed}
use Rattle.ebr_run.specs.State.{Outcome, End, Runs, Normal, Exit, Continue, Returned, Raised, Stopped, Waiting, bare, ended, done, after_turn, loop}
use Rattle.ebr_run.specs.Packages.{PackageState}
use Rattle.ebr_run.specs.Run.{Frame, standing, start, run_part}
use Rattle.ebr_run.specs.Values.{with_cursor}
use Rattle.ebr_run.specs.Calls.{Part, left, returned, forget_if_failed, calls_of}
use Rattle.ebr_code.specs.declared.instruction.Instruction.{Instruction}
use Rattle.ebr_code.specs.declared.instruction.Lookup.{Lookup}
use Rattle.ebr_code.specs.declared.book.Unit as compiled
use Rattle.ebr_code.specs.Books.{Book}
use Rattle.ebr_code.specs.Runs.{RunCode, part_at, parts_of}
use Rattle.ebr_code.specs.Instructions.{run as runs, above, handling_of}
use Rattle.ebr_running.specs.declared.running.Left.{Left}
use Rattle.ebr_running.specs.declared.running.Left.TheVariants as leaves
use Rattle.ebr_running.specs.declared.running.Pending.{Pending}
use Rattle.ebr_running.specs.declared.running.Pending.TheVariants as pending
use Rattle.ebr_running.specs.declared.running.Task.{Task}
use Rattle.ebr_running.specs.declared.running.Task.TheVariants as task
use Rattle.ebr_running.specs.declared.running.Running.{Running}
use Rattle.ebr_running.specs.Rest.{Saved, memory_of, operands_of, outer, calls_at, nothing, part_in, rest_of_turn, by_itself, resume, state_of, saved_of, left_with, after, stands}
use Rattle.ebr_calls.specs.Asked.{AreOfRun, HasTaken, IsCounted}
use Rattle.ebr_calls.proofs.Counts.{Counts, CountsIn, IsEven, kept_at, go_on_counts, turn_on_counts, step_counts, loop_counts, catch_on_counts, finish_on_counts, close_on_counts, answered_counts, when_done_counts}
use Rattle.ebr_calls.proofs.CodeCounts.{run_counts, numbers_count, handled_counts, all_handlers, cursor_keeps, holding_counts, give_on_counts, looked_up_counts}
use Rattle.ebr_calls.proofs.CallCounts.{PartCounts, part_counts, entered_counts, calls_count, returned_counts, left_counts, kept_counts}

code_counts : (book : Book) (m n : ℕ) (code : List Instruction) → CountsIn (runs code (calls_at book m n))
code_counts book m n code = (run_counts code).by (calls_at book m n) (calls_count book m n)

turn_counts : (head body : Runs) → CountsIn head → CountsIn body → CountsIn (rest_of_turn head body)
turn_counts head body h b = step_counts (λ τ. after_turn (body τ) (loop head body)) (λ τ. turn_on_counts τ.left τ.asks τ.answers (body τ).end (body τ) (loop head body) refl (b τ) (loop_counts head body h b))

itself_counts : (function : Bool) (body : Runs) → CountsIn body → CountsIn (by_itself function body)
itself_counts function body b σ =
    let o = body (bare σ) in
    let x = b (bare σ) in
    let o' = returned function o in
    close_on_counts σ.left σ.asks σ.answers o'.end o' refl (returned_counts σ.left σ.asks σ.answers o.end function o refl (record { left_is = x.left_is; made = x.made; used = x.used; asks_are = x.asks_are; given_are = x.given_are; even = x.even; kinds = x.kinds }))

resume_counts : (book : Book) (m n : ℕ) (ts : List Task) (s : Saved) (l : ℕ) (t : List Ask) (w : List Answer) (o : Outcome) → Counts l t w o → Counts l t w (resume book m n ts s o)
resume_counts book m n [] s l t w o h = h
resume_counts book m n (task.Rest code place ∷ ts) s l t w o h = resume_counts book m n ts s l t w _ (go_on_counts l t w o.end o _ refl h (code_counts book m n (drop place code)))
resume_counts book m n (task.Head head body ∷ ts) s l t w o h =
    resume_counts book m n ts s l t w _ (turn_on_counts l t w o.end o _ refl h (turn_counts (runs head (calls_at book m n)) (runs body (calls_at book m n)) (code_counts book m n head) (code_counts book m n body)))
resume_counts book m n (task.Loop head body ∷ ts) s l t w o h =
    resume_counts book m n ts s l t w _ (turn_on_counts l t w o.end o _ refl h (loop_counts (runs head (calls_at book m n)) (runs body (calls_at book m n)) (code_counts book m n head) (code_counts book m n body)))
resume_counts book m n (task.Numbers k reversed low high body ∷ ts) s l t w o h =
    resume_counts book m n ts s l t w _ (turn_on_counts l t w o.end o _ refl h (numbers_count k reversed (value.Num low) (value.Num high) (runs body (calls_at book m n)) (code_counts book m n body)))
resume_counts book m n (task.Guard k hs ∷ ts) s l t w o h =
    resume_counts book m n ts s l t w _ (catch_on_counts l t w o.end o _ refl h (handled_counts k (map handling_of hs) (all_handlers hs) (calls_at book m n) (calls_count book m n)))
resume_counts book m n (task.Closing c ∷ ts) s l t w o h = resume_counts book m n ts s l t w _ (finish_on_counts l t w o.end o (with_cursor c Closed) refl h (cursor_keeps c Closed))
resume_counts book m n (task.Function ∷ ts) s l t w o h = resume_counts book m n ts s l t w _ (returned_counts l t w o.end true o refl h)
resume_counts book m n (task.Autonomous function code ∷ ts) s l t w o h =
    resume_counts book m n ts s l t w _ (go_on_counts l t w o.end o _ refl h (itself_counts function (runs code (calls_at book m n)) (code_counts book m n code)))
resume_counts book m n (task.Close ∷ ts) s l t w o h = resume_counts book m n ts s l t w _ (close_on_counts l t w o.end o refl h)
resume_counts book m n (task.Making name m' ∷ ts) s l t w o h =
    let o1 = left nothing (memory_of s) o in
    let o2 = forget_if_failed name o1 in
    resume_counts book m' n ts (outer s) l t w _ (go_on_counts l t w o2.end o2 _ refl (kept_counts l t w o1.end name o1 refl (left_counts l t w o.end nothing (memory_of s) o refl h)) (holding_counts (operands_of s)))
resume_counts book m n (task.Call c ∷ ts) s l t w o h =
    let p = part_in c.unit c.place in
    let o1 = left p (memory_of s) o in
    resume_counts book m c.frames_left ts (outer s) l t w _
    (give_on_counts l t w o1.end c.results o1 (above (operands_of s)) refl (left_counts l t w o.end p (memory_of s) o refl h) (λ vs τ. record { left_is = refl; made = []; used = []; asks_are = sym (append-nil _); given_are = refl; even = refl; kinds = tt }))

left_even : (e : Left) (f : Fault) (given : List Answer) → IsEven (left_with e f) zero zero given
left_even leaves.Normal f given = refl
left_even leaves.Exit f given = refl
left_even leaves.Continue f given = refl
left_even leaves.Returned f given = refl
left_even leaves.Raised f given = refl

after_counts : (p : Pending) (l : Lookup) (f : Fault) (a : Answer) → CountsIn (after p l f a)
after_counts pending.Lookup l f a = looked_up_counts l a
after_counts pending.Done l f a = when_done_counts a done (λ τ. record { left_is = refl; made = []; used = []; asks_are = sym (append-nil _); given_are = refl; even = refl; kinds = tt })
after_counts (pending.Close e) l f a = when_done_counts a (ended (left_with e f)) (λ τ. kept_at τ τ (left_with e f) (left_even e f τ.answers) (record { left_is = refl; asks_are = refl; given_are = refl }))

-- All that a run will do behind an answer makes asks behind those that there are.
pub stands_count : (book : Book) (m : Running) (a : Answer) (asks : List Ask) (given : List Answer) → Counts m.left asks given (stands book m (Some a) asks given)
stands_count book m a asks given =
    resume_counts book m.makings_left m.frames_left m.tasks (saved_of m) m.left asks given _ (answered_counts a (after m.pending m.lookup m.fault) (after_counts m.pending m.lookup m.fault) (state_of m asks given))

-- ---- runs of code

run_part_counts : (p : Option Part) → PartCounts p → (book : Book) (arguments : List Value) → CountsIn (run_part p (parts_of book) arguments)
run_part_counts None h book arguments σ = record { left_is = refl; made = []; used = []; asks_are = sym (append-nil _); given_are = refl; even = refl; kinds = tt }
run_part_counts (Some p) h book arguments σ = entered_counts p h (calls_of (parts_of book)) (calls_count book book.objects 999) arguments σ

at_most : (made : List Ask) (used rest given : List Answer) → length made ≡ length used → given ≡ used ++ rest → length made ≤ length given
at_most made used rest given v g =
    let n = ap length g ∙ length-append used rest in
    omega (arith, v, n)

taken_as : (e : End) (made : List Ask) (used rest given : List Answer) → IsEven e (length made) (length used) rest → given ≡ used ++ rest → HasTaken (standing e) (length made) (length given)
taken_as Waiting made used rest given v g = v.0 ∙ ap suc (sym (ap length (g ∙ ap (λ r. used ++ r) v.1 ∙ append-nil used)))
taken_as Normal made used rest given v g = at_most made used rest given v g
taken_as Exit made used rest given v g = at_most made used rest given v g
taken_as Continue made used rest given v g = at_most made used rest given v g
taken_as Returned made used rest given v g = at_most made used rest given v g
taken_as (Raised f) made used rest given v g = at_most made used rest given v g
taken_as (Stopped c) made used rest given v g = at_most made used rest given v g

-- What is seen of a run of code.
pub code_counted : (book : Book) (u : compiled.Unit) (arguments : List Value) (packages : List PackageState) (frame : Frame) (left : ℕ) (answers : List Answer) → IsCounted left answers (RunCode book u arguments packages frame left answers)
unfolding RunCode
code_counted book u arguments packages frame left answers =
    let σ = start packages frame left answers in
    let o = run_part (part_at u 0) (parts_of book) arguments σ in
    let h = run_part_counts (part_at u 0) (part_counts (slice_get u.subprograms 0)) book arguments σ in
    record {
      taken = subst (λ (asks : List Ask). HasTaken (standing o.end) (length asks) (length answers)) (sym h.asks_are) (taken_as o.end h.made h.used o.state.answers answers h.even h.given_are);
      kinds = subst (AreOfRun left) (sym h.asks_are) h.kinds;
    }
