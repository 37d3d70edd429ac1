-- No call takes steps or lines back.
use Rattle.std.proofs.Common.{◌≡◌, ℕ, zero, suc, Bool, true, false, List, [], ◌∷◌, ◌++◌, Option, Some, None, option_map, refl, arith}
use Rattle.std.specs.Prelude.{slice_get, option_and_then}
use Rattle.ebr_base.specs.declared.code.Code.{Code}
use Rattle.ebr_base.specs.declared.numbers.Stamp.{Stamp}
use Rattle.ebr_base.specs.declared.object.Class.{Class}
use Rattle.ebr_base.specs.declared.object.Class.TheVariants as class
use Rattle.ebr_base.specs.declared.value.Value.{Value}
use Rattle.ebr_ast.specs.Views.{unit_key}
use Rattle.ebr_scope.specs.Meanings.{Word}
use Rattle.ebr_run.specs.declared.callee.Callee.{Callee}
use Rattle.ebr_run.specs.declared.callee.Reference.{Reference}
use Rattle.ebr_run.specs.declared.callee.Reference.TheVariants as reference
use Rattle.ebr_run.specs.Packages.{PackageState, Made, state_of, forget, same_made}
use Rattle.ebr_run.specs.State.{Memory, State, Outcome, End, Runs, Row, Normal, Exit, Continue, Returned, Raised, Stopped, Waiting, bare, with_memory, with_packages, broken}
use Rattle.ebr_run.specs.Values.{unfit, when_fit}
use Rattle.ebr_run.specs.Scope.{body_key}
use Rattle.ebr_run.specs.Expressions.{Calls}
use Rattle.ebr_run.specs.Calls.{Formal, Part, Making, Parts, returned_on, left_on, left, fresh, body, entered, received, agrees, enter, too_deep, forget_on, first_state, make, outdated, refer_to, refer_in, by_frames, by_makings}
use Rattle.ebr_run.specs.Units.{with_specification}
use Rattle.ebr_code.specs.declared.instruction.Instruction.{Instruction}
use Rattle.ebr_code.specs.declared.book.Subprogram.{Subprogram}
use Rattle.ebr_code.specs.declared.book.Initial.{Initial}
use Rattle.ebr_code.specs.declared.book.Unit as compiled
use Rattle.ebr_code.specs.Books.{Book}
use Rattle.ebr_code.specs.Instructions.{run}
use Rattle.ebr_code.specs.Runs.{part_of, making_of, part_at, making_in, making_with, parts_of}
use Rattle.ebr_run.specs.State.{loop, turn}
use Rattle.ebr_running.specs.Rest.{calls_at}
use Rattle.ebr_running.proofs.Rises.{Rises, Grows, same, either, by_itself_grows, loop_turn}
use Rattle.ebr_running.proofs.CodeRises.{CallsGrow, MeaningGrows, run_grows}

abbrev PartGrows : Option Part → Type 0
PartGrows None = Unit {0}
PartGrows (Some p) = MeaningGrows p.run

abbrev MakingGrows : Option Making → Type 0
MakingGrows None = Unit {0}
MakingGrows (Some m) = MeaningGrows m.run

record PartsGrow (parts : Parts) : Type 0 where
  part : (f : Callee) → PartGrows (parts.part f)
  making : (p : Word) → MakingGrows (parts.making p)

-- ---- calls

pub returned_grows : (l s : ℕ) (w : List (List ℕ)) (e : End) (function : Bool) (o : Outcome) → Rises l s w o → Rises l s w (returned_on e function o)
returned_grows l s w Normal true o h = record { left_is = h.left_is; le = h.le; more = h.more }
returned_grows l s w Normal false o h = h
returned_grows l s w Exit function o h = h
returned_grows l s w Continue function o h = h
returned_grows l s w Returned function o h = h
returned_grows l s w (Raised f) function o h = h
returned_grows l s w (Stopped c) function o h = h
returned_grows l s w Waiting function o h = h

pub left_grows : (l s : ℕ) (w : List (List ℕ)) (e : End) (p : Part) (m : Memory) (o : Outcome) → Rises l s w o → Rises l s w (left_on e p m o)
left_grows l s w Waiting p m o h = h
left_grows l s w (Raised f) p m o h = record { left_is = h.left_is; le = h.le; more = h.more }
left_grows l s w (Stopped c) p m o h = record { left_is = h.left_is; le = h.le; more = h.more }
left_grows l s w Normal p m o h = record { left_is = h.left_is; le = h.le; more = h.more }
left_grows l s w Exit p m o h = record { left_is = h.left_is; le = h.le; more = h.more }
left_grows l s w Continue p m o h = record { left_is = h.left_is; le = h.le; more = h.more }
left_grows l s w Returned p m o h = record { left_is = h.left_is; le = h.le; more = h.more }

body_grows : (p : Part) → MeaningGrows p.run → (calls : Calls) → CallsGrow calls → Grows (body p calls)
body_grows p h calls hc σ = by_itself_grows p.autonomous _ (λ τ.
    let o = p.run calls (bare τ) in
    let x = h.by calls hc (bare τ) in
    returned_grows τ.left τ.steps τ.lines o.end p.function o (record { left_is = x.left_is; le = x.le; more = x.more })) σ

entered_grows : (p : Part) → MeaningGrows p.run → (calls : Calls) → CallsGrow calls → (vs : List Value) → Grows (entered p calls vs)
entered_grows p h calls hc vs σ =
    let o = body p calls (with_memory (fresh vs) σ) in
    let x = body_grows p h calls hc (with_memory (fresh vs) σ) in
    left_grows σ.left σ.steps σ.lines o.end p σ.memory o (record { left_is = x.left_is; le = x.le; more = x.more })

received_grows : (fs : List Formal) (vs : List Value) (next : Runs) → Grows next → Grows (received fs vs next)
received_grows [] vs next h σ = h σ
received_grows (f ∷ fs) [] next h σ = h σ
received_grows (f ∷ fs) (v ∷ vs) next h σ = either σ.left σ.steps σ.lines f.takes _ _ (fit_grows (unfit (Some f.ty) v) (received fs vs next) (received_grows fs vs next h) σ) (received_grows fs vs next h σ)
  where
    fit_grows : (o : Option Code) (k : Runs) → Grows k → Grows (when_fit o k)
    fit_grows None k g τ = g τ
    fit_grows (Some c) k g τ = record { left_is = refl; le = omega arith; more = same _ }

enter_grows : (p : Option Part) → PartGrows p → (f : Callee) (calls : Calls) → CallsGrow calls → (vs : List Value) → Grows (enter p f calls vs)
enter_grows None h f calls hc vs σ = record { left_is = refl; le = omega arith; more = same _ }
enter_grows (Some p) h f calls hc vs σ = either σ.left σ.steps σ.lines (agrees f p) _ _ (received_grows p.formals vs (entered p calls vs) (entered_grows p h calls hc vs) σ) (record { left_is = refl; le = omega arith; more = same _ })

deep_grows : (p : Option Part) → Grows (too_deep p)
deep_grows None σ = record { left_is = refl; le = omega arith; more = same _ }
deep_grows (Some p) σ = record { left_is = refl; le = omega arith; more = same _ }

-- ---- packages

pub kept_grows : (l s : ℕ) (w : List (List ℕ)) (e : End) (p : Word) (o : Outcome) → Rises l s w o → Rises l s w (forget_on e p o)
kept_grows l s w (Raised f) p o h = record { left_is = h.left_is; le = h.le; more = h.more }
kept_grows l s w (Stopped c) p o h = record { left_is = h.left_is; le = h.le; more = h.more }
kept_grows l s w Normal p o h = h
kept_grows l s w Exit p o h = h
kept_grows l s w Continue p o h = h
kept_grows l s w Returned p o h = h
kept_grows l s w Waiting p o h = h

make_grows : (m : Option Making) → MakingGrows m → (made : Made) (p : Word) (calls : Calls) → CallsGrow calls → Grows (make m made p calls)
make_grows None h made p calls hc σ = record { left_is = refl; le = omega arith; more = same _ }
make_grows (Some m) h made p calls hc σ =
    let first = bare (with_memory (fresh []) (with_packages (σ.packages ++ first_state p made m.stateful ∷ []) σ)) in
    let part : Part = record { formals = []; function = false; autonomous = false; run = m.run } in
    let o = m.run calls first in
    let x = h.by calls hc first in
    let o' = left part σ.memory o in
    kept_grows σ.left σ.steps σ.lines o'.end p o' (left_grows σ.left σ.steps σ.lines o.end part σ.memory o (record { left_is = x.left_is; le = x.le; more = x.more }))

outdated_grows : (b : Bool) (making : Runs) → Grows making → Grows (outdated b making)
outdated_grows true making g σ = record { left_is = refl; le = omega arith; more = same _ }
outdated_grows false making g σ = g σ

refer_to_grows : (s : Option PackageState) (made : Made) (p : Word) (making : Runs) → Grows making → Grows (refer_to s made p making)
refer_to_grows None made p making g σ = g σ
refer_to_grows (Some s) made p making g σ =
    let x = outdated_grows s.stateful making g (with_packages (forget p σ.packages) σ) in
    either σ.left σ.steps σ.lines (same_made s.made made) _ _ (record { left_is = refl; le = omega arith; more = same _ }) (record { left_is = x.left_is; le = x.le; more = x.more })

refer_in_grows : (row : Option Row) (r : Reference) (made : Made) (p : Word) (making : Runs) → Grows making → Grows (refer_in row r made p making)
refer_in_grows None r made p making g σ = refer_to_grows (state_of p σ.packages) made p making g σ
refer_in_grows (Some row) reference.Other made p making g σ = record { left_is = refl; le = omega arith; more = same _ }
refer_in_grows (Some row) reference.Data made p making g σ = record { left_is = refl; le = omega arith; more = same _ }

frames_grow : (parts : Parts) → PartsGrow parts → (refer : ℕ → Reference → Word → Runs) → ((n : ℕ) (r : Reference) (p : Word) → Grows (refer n r p)) → (n : ℕ) → CallsGrow (by_frames parts refer n)
frames_grow parts h refer g zero = record { call = λ f vs. deep_grows (parts.part f); refer = g zero }
frames_grow parts h refer g (suc n) = record { call = λ f vs. enter_grows (parts.part f) (h.part f) f (by_frames parts refer n) (frames_grow parts h refer g n) vs; refer = g (suc n) }

makings_grow : (parts : Parts) → PartsGrow parts → (m n : ℕ) (r : Reference) (p : Word) → Grows (by_makings parts m n r p)
makings_grow parts h zero n r p σ = refer_in_grows σ.row r (parts.made p) p broken (λ τ. record { left_is = refl; le = omega arith; more = same _ }) σ
makings_grow parts h (suc m) n r p σ =
    let calls = by_frames parts (by_makings parts m) n in
    refer_in_grows σ.row r (parts.made p) p (make (parts.making p) (parts.made p) p calls)
    (make_grows (parts.making p) (h.making p) (parts.made p) p calls (frames_grow parts h (by_makings parts m) (makings_grow parts h m) n)) σ

-- ---- the parts of a book

part_grows : (s : Option Subprogram) → PartGrows (option_map part_of s)
part_grows None = tt
part_grows (Some s) = run_grows s.code

unit_part_grows : (u : Option compiled.Unit) (at : ℕ) → PartGrows (option_and_then (λ (u : compiled.Unit). part_at u at) u)
unit_part_grows None at = tt
unit_part_grows (Some u) at = part_grows (slice_get u.subprograms at)

initial_grows : (i : Option Initial) → MakingGrows (option_map making_of i)
initial_grows None = tt
initial_grows (Some i) = run_grows i.code

unit_making_grows : (u : Option compiled.Unit) → MakingGrows (option_and_then making_in u)
unit_making_grows None = tt
unit_making_grows (Some u) = initial_grows u.initial

specified_part : (c : Class) (s : Option compiled.Unit) (p : Option Part) → PartGrows p → PartGrows (with_specification c s p)
specified_part class.Body None p h = tt
specified_part class.Body (Some s) p h = h
specified_part class.Unit s p h = h
specified_part class.Trigger s p h = h

specified_making : (s : Option compiled.Unit) (m : Option Making) → MakingGrows m → MakingGrows (with_specification class.Body s m)
specified_making None m h = tt
specified_making (Some s) m h = h

stamped_making : (book : Book) (p : Word) (s : Option Stamp) → MakingGrows (making_with book p s)
stamped_making book p None = unit_making_grows (book.unit (unit_key p))
stamped_making book p (Some s) = specified_making (book.unit (unit_key p)) _ (unit_making_grows (book.unit (body_key p)))

book_grows : (book : Book) → PartsGrow (parts_of book)
book_grows book = record {
  part = λ f. specified_part f.unit.class (book.unit (unit_key f.unit.name)) _ (unit_part_grows (book.unit f.unit) f.place);
  making = λ p. stamped_making book p (book.stamp (body_key p));
}

pub calls_grow : (book : Book) (m n : ℕ) → CallsGrow (calls_at book m n)
calls_grow book m n = frames_grow (parts_of book) (book_grows book) (by_makings (parts_of book) m) (makings_grow (parts_of book) (book_grows book) m) n

-- one turn of a loop, and the loop again
pub loop_run : (book : Book) (m n : ℕ) (head body : List Instruction) (σ : State) → loop (run head (calls_at book m n)) (run body (calls_at book m n)) σ ≡ turn (run head (calls_at book m n)) (run body (calls_at book m n)) (loop (run head (calls_at book m n)) (run body (calls_at book m n))) σ
loop_run book m n head body = loop_turn (run head (calls_at book m n)) (run body (calls_at book m n)) ((run_grows head).by (calls_at book m n) (calls_grow book m n)) ((run_grows body).by (calls_at book m n) (calls_grow book m n))
