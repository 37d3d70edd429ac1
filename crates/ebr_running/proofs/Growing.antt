-- What is left of a run takes no lines back.
use Rattle.std.proofs.Common.{ℕ, Bool, true, List, [], ◌∷◌, map, drop, Option, Some, None, refl, arith}
use Rattle.ebr_base.specs.declared.value.Value.TheVariants as value
use Rattle.ebr_asks.specs.declared.ask.Ask.{Ask}
use Rattle.ebr_asks.specs.declared.answer.Answer.{Answer}
use Rattle.ebr_run.specs.declared.fault.Fault.{Fault}
use Rattle.ebr_run.specs.Cursors.{Closed}
use Rattle.ebr_run.specs.State.{Outcome, Runs, bare, ended, done, after_turn, loop}
use Rattle.ebr_run.specs.Values.{with_cursor}
use Rattle.ebr_run.specs.Calls.{left, returned, forget_if_failed}
use Rattle.ebr_code.specs.declared.instruction.Instruction.{Instruction}
use Rattle.ebr_code.specs.declared.instruction.Lookup.{Lookup}
use Rattle.ebr_code.specs.Books.{Book}
use Rattle.ebr_code.specs.Instructions.{run as runs, above, handling_of}
use Rattle.ebr_running.specs.declared.running.Flow.{Flow}
use Rattle.ebr_running.specs.declared.running.Flow.TheVariants as flow
use Rattle.ebr_running.specs.declared.running.Pending.{Pending}
use Rattle.ebr_running.specs.declared.running.Pending.TheVariants as pending
use Rattle.ebr_running.specs.declared.running.Task.{Task}
use Rattle.ebr_running.specs.declared.running.Task.TheVariants as task
use Rattle.ebr_running.specs.declared.running.Running.{Running}
use Rattle.ebr_running.specs.Lines.{Extends}
use Rattle.ebr_running.specs.Rest.{Saved, memory_of, operands_of, outer, calls_at, nothing, part_in, rest_of_turn, by_itself, resume, state_of, saved_of, left_with, after, awake, stands}
use Rattle.ebr_running.proofs.Rises.{Rises, Grows, same, go_on_grows, turn_on_grows, step_grows, loop_grows, catch_on_grows, finish_on_grows, close_on_grows, asked_grows, answered_grows, when_done_grows}
use Rattle.ebr_running.proofs.CodeRises.{run_grows, numbers_grow, handled_grows, all_handlers, cursor_keeps, holding_grows, give_on_grows, looked_up_grows}
use Rattle.ebr_running.proofs.CallsRise.{calls_grow, returned_grows, left_grows, kept_grows}

code_grows : (book : Book) (m n : ℕ) (code : List Instruction) → Grows (runs code (calls_at book m n))
code_grows book m n code = (run_grows code).by (calls_at book m n) (calls_grow book m n)

turn_grows : (head body : Runs) → Grows head → Grows body → Grows (rest_of_turn head body)
turn_grows head body h b = step_grows (λ τ. after_turn (body τ) (loop head body)) (λ τ. turn_on_grows τ.left τ.steps τ.lines (body τ).end (body τ) (loop head body) (b τ) (loop_grows head body h b))

itself_grows : (function : Bool) (body : Runs) → Grows body → Grows (by_itself function body)
itself_grows function body b σ =
    let o = body (bare σ) in
    let x = b (bare σ) in
    let o' = returned function o in
    close_on_grows σ.left σ.steps σ.lines o'.end o' (returned_grows σ.left σ.steps σ.lines o.end function o (record { left_is = x.left_is; le = x.le; more = x.more }))

resume_grows : (book : Book) (m n : ℕ) (ts : List Task) (s : Saved) (l t : ℕ) (w : List (List ℕ)) (o : Outcome) → Rises l t w o → Rises l t w (resume book m n ts s o)
resume_grows book m n [] s l t w o h = h
resume_grows book m n (task.Rest code place ∷ ts) s l t w o h = resume_grows book m n ts s l t w _ (go_on_grows l t w o.end o _ h (code_grows book m n (drop place code)))
resume_grows book m n (task.Head head body ∷ ts) s l t w o h =
    resume_grows book m n ts s l t w _ (turn_on_grows l t w o.end o _ h (turn_grows (runs head (calls_at book m n)) (runs body (calls_at book m n)) (code_grows book m n head) (code_grows book m n body)))
resume_grows book m n (task.Loop head body ∷ ts) s l t w o h =
    resume_grows book m n ts s l t w _ (turn_on_grows l t w o.end o _ h (loop_grows (runs head (calls_at book m n)) (runs body (calls_at book m n)) (code_grows book m n head) (code_grows book m n body)))
resume_grows book m n (task.Numbers k reversed low high body ∷ ts) s l t w o h =
    resume_grows book m n ts s l t w _ (turn_on_grows l t w o.end o _ h (numbers_grow k reversed (value.Num low) (value.Num high) (runs body (calls_at book m n)) (code_grows book m n body)))
resume_grows book m n (task.Guard k hs ∷ ts) s l t w o h =
    resume_grows book m n ts s l t w _ (catch_on_grows l t w o.end o _ h (handled_grows k (map handling_of hs) (all_handlers hs) (calls_at book m n) (calls_grow book m n)))
resume_grows book m n (task.Closing c ∷ ts) s l t w o h = resume_grows book m n ts s l t w _ (finish_on_grows l t w o.end o (with_cursor c Closed) h (cursor_keeps c Closed))
resume_grows book m n (task.Function ∷ ts) s l t w o h = resume_grows book m n ts s l t w _ (returned_grows l t w o.end true o h)
resume_grows book m n (task.Autonomous function code ∷ ts) s l t w o h =
    resume_grows book m n ts s l t w _ (go_on_grows l t w o.end o _ h (itself_grows function (runs code (calls_at book m n)) (code_grows book m n code)))
resume_grows book m n (task.Close ∷ ts) s l t w o h = resume_grows book m n ts s l t w _ (close_on_grows l t w o.end o h)
resume_grows book m n (task.Making name m' ∷ ts) s l t w o h =
    let o1 = left nothing (memory_of s) o in
    let o2 = forget_if_failed name o1 in
    resume_grows book m' n ts (outer s) l t w _ (go_on_grows l t w o2.end o2 _ (kept_grows l t w o1.end name o1 (left_grows l t w o.end nothing (memory_of s) o h)) (holding_grows (operands_of s)))
resume_grows book m n (task.Call c ∷ ts) s l t w o h =
    let p = part_in c.unit c.place in
    let o1 = left p (memory_of s) o in
    resume_grows book m c.frames_left ts (outer s) l t w _
    (give_on_grows l t w o1.end c.results o1 (above (operands_of s)) (left_grows l t w o.end p (memory_of s) o h) (λ vs τ. record { left_is = refl; le = omega arith; more = same _ }))

after_grows : (p : Pending) (l : Lookup) (f : Fault) (a : Answer) → Grows (after p l f a)
after_grows pending.Lookup l f a = looked_up_grows l a
after_grows pending.Done l f a = when_done_grows a done (λ τ. record { left_is = refl; le = omega arith; more = same _ })
after_grows (pending.Close e) l f a = when_done_grows a (ended (left_with e f)) (λ τ. record { left_is = refl; le = omega arith; more = same _ })

awake_grows : (e : Flow) (f : Fault) (q : Ask) (p : Pending) (l : Lookup) → Grows (awake e f q p l)
awake_grows flow.Waiting f q p l σ = asked_grows q (after p l f) (after_grows p l f) σ
awake_grows flow.Normal f q p l σ = record { left_is = refl; le = omega arith; more = same _ }
awake_grows flow.Exit f q p l σ = record { left_is = refl; le = omega arith; more = same _ }
awake_grows flow.Continue f q p l σ = record { left_is = refl; le = omega arith; more = same _ }
awake_grows flow.Returned f q p l σ = record { left_is = refl; le = omega arith; more = same _ }
awake_grows flow.Raised f q p l σ = record { left_is = refl; le = omega arith; more = same _ }
awake_grows (flow.Stopped c) f q p l σ = record { left_is = refl; le = omega arith; more = same _ }

stood : (book : Book) (m : Running) (a : Option Answer) (asks : List Ask) (given : List Answer) → Rises m.left m.steps m.lines (stands book m a asks given)
stood book m None asks given =
    resume_grows book m.makings_left m.frames_left m.tasks (saved_of m) m.left m.steps m.lines _ (awake_grows m.flow m.fault m.ask m.pending m.lookup (state_of m asks given))
stood book m (Some a) asks given =
    resume_grows book m.makings_left m.frames_left m.tasks (saved_of m) m.left m.steps m.lines _ (answered_grows a (after m.pending m.lookup m.fault) (after_grows m.pending m.lookup m.fault) (state_of m asks given))

-- All that a run will do adds lines behind those that there are.
pub stands_grow : (book : Book) (m : Running) (a : Option Answer) (asks : List Ask) (given : List Answer) → Extends m.lines (stands book m a asks given).state.lines
stands_grow book m a asks given = (stood book m a asks given).more
