-- What is left to do where a call begins.
use Rattle.std.proofs.Common.{◌≡◌, ℕ, ◌-◌, List, ◌∷◌, Some, refl, ap, ◌∙◌}
use Rattle.ebr_base.specs.declared.value.Value.{Value}
use Rattle.ebr_asks.specs.declared.ask.Ask.{Ask}
use Rattle.ebr_asks.specs.declared.answer.Answer.{Answer}
use Rattle.ebr_run.specs.State.{bare, with_memory}
use Rattle.ebr_run.specs.Calls.{left, body, entered, fresh}
use Rattle.ebr_run.specs.Expressions.{given_back}
use Rattle.ebr_code.specs.declared.book.Subprogram.{Subprogram}
use Rattle.ebr_code.specs.declared.book.Unit as compiled
use Rattle.ebr_code.specs.Books.{Book}
use Rattle.ebr_code.specs.Instructions.{above}
use Rattle.ebr_code.specs.Runs.{part_of, part_at}
use Rattle.ebr_running.specs.declared.running.Task.TheVariants as task
use Rattle.ebr_running.specs.declared.running.Running.{Running}
use Rattle.ebr_running.specs.Rest.{calls_at, or_nothing, resume, state_of, saved_of, rest_of, entering}
use Rattle.ebr_machine.proofs.Begins.{first_body}

pub entered_at : (book : Book) (m : Running) (u : compiled.Unit) (place results : ℕ) (s : Subprogram) (arguments : List Value) (asks : List Ask) (given : List Answer) → part_at u place ≡ Some (part_of s)
    → rest_of book (entering u place results s arguments m) asks given
    ≡ resume book m.makings_left m.frames_left m.tasks (saved_of m) (given_back results (entered (part_of s) (calls_at book m.makings_left (m.frames_left - 1)) arguments (bare (state_of m asks given))) (above m.operands.top))
entered_at book m u place results s arguments asks given e =
    let new = entering u place results s arguments m in
    let calls = calls_at book m.makings_left (m.frames_left - 1) in
    let σ = bare (state_of m asks given) in
    first_body book m.makings_left (m.frames_left - 1) s.autonomous s.function s.code (task.Call (record { unit = u; place = place; results = results; frames_left = m.frames_left }) ∷ m.tasks) (saved_of new) m.fault m.lookup (state_of new asks given) refl
    ∙ ap (λ p. resume book m.makings_left m.frames_left m.tasks (saved_of m) (given_back results (left (or_nothing p) σ.memory (body (part_of s) calls (with_memory (fresh arguments) σ))) (above m.operands.top))) e
