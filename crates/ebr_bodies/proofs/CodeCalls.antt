-- Calls of subprograms and references to packages ask what their parts ask.
use Rattle.std.proofs.Common.{ℕ, zero, suc, Bool, true, false, List, [], ◌∷◌, ◌++◌, Option, Some, None}
use Rattle.ebr_base.specs.declared.value.Value.{Value}
use Rattle.ebr_scope.specs.Meanings.{Word}
use Rattle.ebr_run.specs.declared.callee.Callee.{Callee}
use Rattle.ebr_run.specs.declared.callee.Reference.{Reference}
use Rattle.ebr_run.specs.declared.callee.Reference.TheVariants as reference
use Rattle.ebr_run.specs.Packages.{PackageState, Made, state_of, forget, same_made}
use Rattle.ebr_run.specs.State.{Memory, Row, Runs, Outcome, End, Normal, Raised, Stopped, Waiting, with_memory, with_packages, bare, done, broken}
use Rattle.ebr_run.specs.Values.{unfit, when_fit}
use Rattle.ebr_run.specs.Expressions.{Calls}
use Rattle.ebr_run.specs.Calls.{Formal, Part, Making, Parts, returned_on, returned, left_on, left, fresh, body, entered, received, agrees, enter, too_deep, forget_on, first_state, make, outdated, refer_to, refer_in, by_frames, by_makings, most_calls, calls_of}
use Rattle.ebr_bodies.proofs.CodeStates.{Kept, Keeps, if_keeps, by_itself_keeps}
use Rattle.ebr_bodies.proofs.CodeValues.{when_fit_keeps}
use Rattle.ebr_bodies.proofs.CodeOperators.{CallsKeep}

abbrev pub RunKeeps : (Calls → Runs) → Type 0
RunKeeps r = (calls : Calls) → CallsKeep calls → Keeps (r calls)

abbrev pub SomePartKeeps : Option Part → Type 0
SomePartKeeps None = Unit {0}
SomePartKeeps (Some p) = RunKeeps p.run

abbrev pub SomeMakingKeeps : Option Making → Type 0
SomeMakingKeeps None = Unit {0}
SomeMakingKeeps (Some m) = RunKeeps m.run

-- what an edition has asks what code may ask
pub record PartsKeep (parts : Parts) : Type 0 where
  pub part : (f : Callee) → SomePartKeeps (parts.part f)
  pub making : (p : Word) → SomeMakingKeeps (parts.making p)

-- ---- leaving a subprogram

returned_on_keeps : (e : End) (function : Bool) (o : Outcome) → Kept o → Kept (returned_on e function o)
returned_on_keeps Normal true o h = h
returned_on_keeps Normal false o h = h
returned_on_keeps e function o h = h

left_on_keeps : (e : End) (p : Part) (m : Memory) (o : Outcome) → Kept o → Kept (left_on e p m o)
left_on_keeps Waiting p m o h = h
left_on_keeps (Raised f) p m o h = h
left_on_keeps (Stopped c) p m o h = h
left_on_keeps e p m o h = h

-- ---- calls

body_keeps : (p : Part) → RunKeeps p.run → RunKeeps (body p)
body_keeps p pk calls kc σ h = by_itself_keeps p.autonomous (λ τ. returned p.function (p.run calls (bare τ))) (λ τ k. returned_on_keeps (p.run calls (bare τ)).end p.function (p.run calls (bare τ)) (pk calls kc (bare τ) k)) σ h

pub entered_keeps : (p : Part) → RunKeeps p.run → (calls : Calls) → CallsKeep calls → (vs : List Value) → Keeps (entered p calls vs)
entered_keeps p pk calls kc vs σ h =
    let o = body p calls (with_memory (fresh vs) σ) in
    left_on_keeps o.end p σ.memory o (body_keeps p pk calls kc (with_memory (fresh vs) σ) h)

received_keeps : (fs : List Formal) (vs : List Value) (next : Runs) → Keeps next → Keeps (received fs vs next)
received_keeps (f ∷ fs) (v ∷ vs) next n σ h =
    if_keeps f.takes (when_fit (unfit (Some f.ty) v) (received fs vs next) σ) (received fs vs next σ)
    (when_fit_keeps (unfit (Some f.ty) v) (received fs vs next) (received_keeps fs vs next n) σ h) (received_keeps fs vs next n σ h)
received_keeps [] [] next n σ h = n σ h
received_keeps [] (v ∷ vs) next n σ h = n σ h
received_keeps (f ∷ fs) [] next n σ h = n σ h

enter_keeps : (p : Option Part) → SomePartKeeps p → (f : Callee) (calls : Calls) → CallsKeep calls → (vs : List Value) → Keeps (enter p f calls vs)
enter_keeps None pk f calls kc vs σ h = h
enter_keeps (Some p) pk f calls kc vs σ h = if_keeps (agrees f p) (received p.formals vs (entered p calls vs) σ) (broken σ) (received_keeps p.formals vs (entered p calls vs) (entered_keeps p pk calls kc vs) σ h) h

too_deep_keeps : (p : Option Part) → Keeps (too_deep p)
too_deep_keeps None σ h = h
too_deep_keeps (Some p) σ h = h

-- ---- packages

kept_on_keeps : (e : End) (p : Word) (o : Outcome) → Kept o → Kept (forget_on e p o)
kept_on_keeps (Raised f) p o h = h
kept_on_keeps (Stopped c) p o h = h
kept_on_keeps e p o h = h

make_keeps : (m : Option Making) → SomeMakingKeeps m → (made : Made) (p : Word) → RunKeeps (make m made p)
make_keeps None mk made p calls kc σ h = h
make_keeps (Some m) mk made p calls kc σ h =
    let q : Part = record { formals = []; function = false; autonomous = false; run = m.run } in
    let start = bare (with_memory (fresh []) (with_packages (σ.packages ++ first_state p made m.stateful ∷ []) σ)) in
    let o = left q σ.memory (m.run calls start) in
    kept_on_keeps o.end p o (left_on_keeps (m.run calls start).end q σ.memory (m.run calls start) (mk calls kc start h))

outdated_keeps : (stateful : Bool) (making : Runs) → Keeps making → Keeps (outdated stateful making)
outdated_keeps true making k σ h = h
outdated_keeps false making k σ h = k σ h

refer_to_keeps : (s : Option PackageState) (made : Made) (p : Word) (making : Runs) → Keeps making → Keeps (refer_to s made p making)
refer_to_keeps None made p making k σ h = k σ h
refer_to_keeps (Some s) made p making k σ h =
    if_keeps (same_made s.made made) (done σ) (outdated s.stateful making (with_packages (forget p σ.packages) σ)) h (outdated_keeps s.stateful making k (with_packages (forget p σ.packages) σ) h)

refer_in_keeps : (row : Option Row) (r : Reference) (made : Made) (p : Word) (making : Runs) → Keeps making → Keeps (refer_in row r made p making)
refer_in_keeps None r made p making k σ h = refer_to_keeps (state_of p σ.packages) made p making k σ h
refer_in_keeps (Some row) reference.Other made p making k σ h = h
refer_in_keeps (Some row) reference.Data made p making k σ h = h

-- ---- the calls

module _ (parts : Parts) (pk : PartsKeep parts) where
  by_frames_keep : (refer : ℕ → Reference → Word → Runs) → ((n : ℕ) (r : Reference) (p : Word) → Keeps (refer n r p)) → (n : ℕ) → CallsKeep (by_frames parts refer n)
  by_frames_keep refer rk zero = record { call = λ f vs σ h. too_deep_keeps (parts.part f) σ h; refer = rk zero }
  by_frames_keep refer rk (suc n) = record { call = λ f vs σ h. enter_keeps (parts.part f) (pk.part f) f (by_frames parts refer n) (by_frames_keep refer rk n) vs σ h; refer = rk (suc n) }

  by_makings_keep : (m n : ℕ) (r : Reference) (p : Word) → Keeps (by_makings parts m n r p)
  by_makings_keep zero n r p σ h = refer_in_keeps σ.row r (parts.made p) p broken (λ τ k. k) σ h
  by_makings_keep (suc m) n r p σ h =
      let calls = by_frames parts (by_makings parts m) n in
      refer_in_keeps σ.row r (parts.made p) p (make (parts.making p) (parts.made p) p calls)
      (make_keeps (parts.making p) (pk.making p) (parts.made p) p calls (by_frames_keep (by_makings parts m) (by_makings_keep m) n)) σ h

  pub calls_keep : CallsKeep (calls_of parts)
  calls_keep = by_frames_keep (by_makings parts parts.objects) (by_makings_keep parts.objects) most_calls
