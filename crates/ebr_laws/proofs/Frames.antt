-- Parts and packages begin without operands, so that what they would do with some makes no difference to calls.
use Rattle.std.proofs.Common.{◌≡◌, ℕ, zero, suc, false, if◌then◌else◌, List, [], ◌∷◌, ◌++◌, Option, Some, None, refl, ap, ◌∙◌}
use Rattle.std.specs.Prelude.{option_map}
use Rattle.ebr_base.specs.declared.value.Value.{Value}
use Rattle.ebr_scope.specs.Meanings.{Word}
use Rattle.ebr_run.specs.declared.callee.Callee.{Callee}
use Rattle.ebr_run.specs.declared.callee.Reference.{Reference}
use Rattle.ebr_run.specs.Packages.{Made}
use Rattle.ebr_run.specs.State.{Memory, State, Runs, Outcome, End, Normal, Exit, Continue, Returned, Raised, Stopped, Waiting, bare, with_memory, with_packages, broken}
use Rattle.ebr_run.specs.Expressions.{Calls}
use Rattle.ebr_run.specs.Calls.{Part, Making, Parts, left_on, fresh, first_state, body, entered, received, agrees, enter, too_deep, forget_if_failed, make, refer_in, by_frames, by_makings, calls_of, most_calls}
use Rattle.ebr_run.specs.Run.{run_part}

abbrev pub bared : Part → Part
bared p = record p { run = λ calls σ. p.run calls (bare σ) }

abbrev pub bared_making : Making → Making
bared_making m = record m { run = λ calls σ. m.run calls (bare σ) }

abbrev pub bared_parts : Parts → Parts
bared_parts ps = record { part = λ f. option_map bared (ps.part f); making = λ p. option_map bared_making (ps.making p); made = ps.made; objects = ps.objects }

-- ---- calls

left_on_bared : (e : End) (p : Part) (m : Memory) (o : Outcome) → left_on e (bared p) m o ≡ left_on e p m o
left_on_bared Normal p m o = refl
left_on_bared Exit p m o = refl
left_on_bared Continue p m o = refl
left_on_bared Returned p m o = refl
left_on_bared (Raised f) p m o = refl
left_on_bared (Stopped c) p m o = refl
left_on_bared Waiting p m o = refl

entered_bared : (p : Part) (calls : Calls) (vs : List Value) (σ : State) → entered (bared p) calls vs σ ≡ entered p calls vs σ
entered_bared p calls vs σ = let o = body p calls (with_memory (fresh vs) σ) in left_on_bared o.end p σ.memory o

enter_bared : (p : Option Part) (f : Callee) (calls : Calls) (vs : List Value) (σ : State) → enter (option_map bared p) f calls vs σ ≡ enter p f calls vs σ
enter_bared None f calls vs σ = refl
enter_bared (Some p) f calls vs σ = ap (λ next. if agrees f p then received p.formals vs next σ else broken σ) (λ i τ. entered_bared p calls vs τ i)

too_deep_bared : (p : Option Part) (σ : State) → too_deep (option_map bared p) σ ≡ too_deep p σ
too_deep_bared None σ = refl
too_deep_bared (Some p) σ = refl

-- ---- packages

make_bared : (m : Option Making) (made : Made) (p : Word) (calls : Calls) (σ : State) → make (option_map bared_making m) made p calls σ ≡ make m made p calls σ
make_bared None made p calls σ = refl
make_bared (Some m) made p calls σ =
    let σ' = with_memory (fresh []) (with_packages (σ.packages ++ first_state p made m.stateful ∷ []) σ) in
    let part : Part = record { formals = []; function = false; autonomous = false; run = m.run } in
    let o = m.run calls (bare σ') in
    ap (forget_if_failed p) (left_on_bared o.end part σ.memory o)

-- ---- frames and makings

by_frames_bared : (ps : Parts) (refer : ℕ → Reference → Word → Runs) (n : ℕ) → by_frames (bared_parts ps) refer n ≡ by_frames ps refer n
by_frames_bared ps refer zero = λ i. record { call = λ f vs σ. too_deep_bared (ps.part f) σ i; refer = refer zero }
by_frames_bared ps refer (suc n) =
    (λ i. record { call = λ f vs σ. enter_bared (ps.part f) f (by_frames (bared_parts ps) refer n) vs σ i; refer = refer (suc n) })
    ∙ ap (λ calls. record { call = λ f vs σ. enter (ps.part f) f calls vs σ; refer = refer (suc n) }) (by_frames_bared ps refer n)

by_makings_bared : (ps : Parts) (m n : ℕ) (r : Reference) (p : Word) (σ : State) → by_makings (bared_parts ps) m n r p σ ≡ by_makings ps m n r p σ
by_makings_bared ps zero n r p σ = refl
by_makings_bared ps (suc m) n r p σ =
    ap (λ making. refer_in σ.row r (ps.made p) p making σ)
    ((λ i τ. make_bared (ps.making p) (ps.made p) p (by_frames (bared_parts ps) (by_makings (bared_parts ps) m) n) τ i)
    ∙ ap (λ calls. make (ps.making p) (ps.made p) p calls) (by_frames_bared ps (by_makings (bared_parts ps) m) n ∙ ap (λ refer. by_frames ps refer n) (λ i k r p τ. by_makings_bared ps m k r p τ i)))

frames_bared : (ps : Parts) (m n : ℕ) → by_frames (bared_parts ps) (by_makings (bared_parts ps) m) n ≡ by_frames ps (by_makings ps m) n
frames_bared ps m n = by_frames_bared ps (by_makings (bared_parts ps) m) n ∙ ap (λ refer. by_frames ps refer n) (λ i k r p τ. by_makings_bared ps m k r p τ i)

pub calls_bared : (ps : Parts) → calls_of (bared_parts ps) ≡ calls_of ps
calls_bared ps = frames_bared ps ps.objects most_calls

-- ---- runs

pub run_bared : (p : Option Part) (ps : Parts) (vs : List Value) (σ : State) → run_part (option_map bared p) (bared_parts ps) vs σ ≡ run_part p ps vs σ
run_bared None ps vs σ = refl
run_bared (Some p) ps vs σ = ap (λ calls. entered (bared p) calls vs σ) (calls_bared ps) ∙ entered_bared p (calls_of ps) vs σ
