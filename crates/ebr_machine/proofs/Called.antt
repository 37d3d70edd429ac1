-- What calls do, by what is found.
use Rattle.std.proofs.Common.{◌≡◌, ℕ, zero, suc, ◌-◌, ◌<◌, Bool, true, false, if◌then◌else◌, List, [], ◌∷◌, take, drop, reverse, Option, Some, None, refl, sym, ap, ◌∙◌, arith}
use Rattle.std.specs.Prelude.{slice_get, option_map}
use Rattle.ebr_base.specs.declared.code.Code.{Code}
use Rattle.ebr_base.specs.declared.value.Value.{Value}
use Rattle.ebr_asks.specs.declared.ask.Ask.{Ask}
use Rattle.ebr_asks.specs.declared.answer.Answer.{Answer}
use Rattle.ebr_run.specs.declared.callee.Callee.{Callee}
use Rattle.ebr_run.specs.declared.fault.Fault.TheVariants as fault
use Rattle.ebr_run.specs.State.{State, Runs, bare, raises, broken}
use Rattle.ebr_run.specs.Values.{unfit, when_fit}
use Rattle.ebr_run.specs.Expressions.{given_back}
use Rattle.ebr_run.specs.Calls.{Formal, Part, agrees, received, entered}
use Rattle.ebr_code.specs.declared.book.Subprogram.{Subprogram}
use Rattle.ebr_code.specs.declared.book.Unit as compiled
use Rattle.ebr_code.specs.Books.{Book}
use Rattle.ebr_code.specs.Instructions.{above, last, beneath}
use Rattle.ebr_code.specs.Runs.{part_of}
use Rattle.ebr_memory.specs.Levels.{with_top}
use Rattle.ebr_running.specs.declared.running.Running.{Running}
use Rattle.ebr_running.specs.Rest.{DoesIn, Moves, calls_at, resume, saved_of, state_of}
use Rattle.ebr_running.proofs.Moving.{moves_does}
use Rattle.ebr_machine.specs.inside.Callees.{GoesAs, call_of, called, unless, first_unfit, with_arguments, with_subprogram}
use Rattle.ebr_machine.proofs.Entering.{entered_at}

-- the same by another meaning
pub does_as : (book : Book) (old new : Running) (f g : Runs) → ((asks : List Ask) (given : List Answer) → g (state_of old asks given) ≡ f (state_of old asks given)) → DoesIn book old new f → DoesIn book old new g
does_as book old new f g e d asks given = d asks given ∙ ap (resume book old.makings_left old.frames_left old.tasks (saved_of old)) (sym (e asks given))

pub moves_as : (book : Book) (old new : Running) (f g : Runs) → ((asks : List Ask) (given : List Answer) → g (state_of old asks given) ≡ f (state_of old asks given)) → Moves old new f → DoesIn book old new g
moves_as book old new f g e m = does_as book old new f g e (moves_does old new f m book)

received_as : (fs : List Formal) (vs : List Value) (next : Runs) (σ : State) → received fs vs next σ ≡ when_fit (first_unfit fs vs) next σ
received_as [] [] next σ = refl
received_as [] (v ∷ vs) next σ = refl
received_as (f ∷ fs) [] next σ = refl
received_as (f ∷ fs) (v ∷ vs) next σ = by_test f.takes (unfit (Some f.ty) v) (λ τ. received_as fs vs next τ)
  where
    by_test : (b : Bool) (c : Option Code) → ((τ : State) → received fs vs next τ ≡ when_fit (first_unfit fs vs) next τ)
        → (if b then when_fit c (received fs vs next) σ else received fs vs next σ) ≡ when_fit (unless (if b then c else None) (first_unfit fs vs)) next σ
    by_test true None h = h σ
    by_test true (Some c) h = refl
    by_test false c h = h σ

-- what is done with a frame left
abbrev in_frame : Book → ℕ → ℕ → Part → Callee → List Value → Runs
in_frame book m n p f vs σ = if agrees f p then when_fit (first_unfit p.formals vs) (entered p (calls_at book m n) vs) σ else broken σ

framed : (book : Book) (m n : ℕ) (p : Part) (f : Callee) (vs : List Value) (σ : State) → 0 < n → call_of book m n (Some p) f vs σ ≡ in_frame book m (n - 1) p f vs σ
framed book m zero p f vs σ h = absurd (omega arith)
framed book m (suc n) p f vs σ h =
    let e : n ≡ suc n - 1 = omega arith in
    ap (λ o. if agrees f p then o else broken σ) (received_as p.formals vs (entered p (calls_at book m n) vs) σ) ∙ ap (λ k. in_frame book m k p f vs σ) e

pub call_unfit : (book : Book) (old new : Running) (p : Part) (f : Callee) (c : Code) → 0 < old.frames_left → agrees f p ≡ true → Some c ≡ first_unfit p.formals (reverse (take f.arguments old.operands.top)) → Moves old new (raises (fault.Code c)) → DoesIn book old new (called book old.makings_left old.frames_left (Some p) f)
call_unfit book old new p f c h e u m = moves_as book old new (raises (fault.Code c)) (called book old.makings_left old.frames_left (Some p) f) (λ asks given.
    let σ = state_of old asks given in
    let vs = last f.arguments σ in
    let next = entered p (calls_at book old.makings_left (old.frames_left - 1)) vs in
    ap (λ o. given_back f.results o (above (beneath f.arguments σ)))
    (framed book old.makings_left old.frames_left p f vs (bare σ) h
    ∙ ap (λ b. if b then when_fit (first_unfit p.formals vs) next (bare σ) else broken (bare σ)) e
    ∙ ap (λ x. when_fit x next (bare σ)) (sym u))) m

-- what a call begins with
abbrev without : ℕ → Running → Running
without n m = record m { operands = with_top (drop n m.operands.top) m.operands }

pub call_enters : (book : Book) (old new : Running) (u : compiled.Unit) (s : Subprogram) (f : Callee) → 0 < old.frames_left → agrees f (part_of s) ≡ true → None ≡ first_unfit (part_of s).formals (reverse (take f.arguments old.operands.top))
    → Some s ≡ slice_get u.subprograms f.place → GoesAs book new (with_subprogram u f old.frames_left s (with_arguments f.arguments old)) → DoesIn book old new (called book old.makings_left old.frames_left (Some (part_of s)) f)
call_enters book old new u s f h e n i w asks given =
    let σ = state_of old asks given in
    let p = part_of s in
    let vs = reverse (take f.arguments old.operands.top) in
    let next = entered p (calls_at book old.makings_left (old.frames_left - 1)) vs in
    w asks given
    ∙ entered_at book (without f.arguments old) u f.place f.results s vs asks given (ap (option_map part_of) (sym i))
    ∙ ap (λ o. resume book old.makings_left old.frames_left old.tasks (saved_of old) (given_back f.results o (above (beneath f.arguments σ)))) (sym
    (framed book old.makings_left old.frames_left p f vs (bare σ) h
    ∙ ap (λ b. if b then when_fit (first_unfit p.formals vs) next (bare σ) else broken (bare σ)) e
    ∙ ap (λ x. when_fit x next (bare σ)) (sym n)))
