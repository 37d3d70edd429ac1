-- How many answers a call takes.
use Rattle.std.proofs.Common.{◌≡◌, ℕ, zero, suc, Bool, true, false, List, [], ◌∷◌, ◌++◌, Option, Some, None, option_map, refl, sym, append-nil}
use Rattle.std.specs.Prelude.{slice_get, option_and_then}
use Rattle.ebr_base.specs.declared.code.Code.{Code}
use Rattle.ebr_base.specs.declared.numbers.Stamp.{Stamp}
use Rattle.ebr_base.specs.declared.object.Class.{Class}
use Rattle.ebr_base.specs.declared.object.Class.TheVariants as class
use Rattle.ebr_base.specs.declared.value.Value.{Value}
use Rattle.ebr_asks.specs.declared.ask.Ask.{Ask}
use Rattle.ebr_asks.specs.declared.answer.Answer.{Answer}
use Rattle.ebr_ast.specs.Views.{unit_key}
use Rattle.ebr_scope.specs.Meanings.{Word}
use Rattle.ebr_run.specs.declared.callee.Callee.{Callee}
use Rattle.ebr_run.specs.declared.callee.Reference.{Reference}
use Rattle.ebr_run.specs.declared.callee.Reference.TheVariants as reference
use Rattle.ebr_run.specs.Packages.{PackageState, Made, state_of, forget, same_made}
use Rattle.ebr_run.specs.State.{Memory, Outcome, End, Runs, Row, Normal, Exit, Continue, Returned, Raised, Stopped, Waiting, bare, with_memory, with_packages, broken}
use Rattle.ebr_run.specs.Values.{unfit, when_fit}
use Rattle.ebr_run.specs.Scope.{body_key}
use Rattle.ebr_run.specs.Expressions.{Calls}
use Rattle.ebr_run.specs.Calls.{Formal, Part, Making, Parts, returned_on, left_on, left, fresh, body, entered, received, agrees, enter, too_deep, forget_on, first_state, make, outdated, refer_to, refer_in, by_frames, by_makings}
use Rattle.ebr_run.specs.Units.{with_specification}
use Rattle.ebr_code.specs.declared.book.Subprogram.{Subprogram}
use Rattle.ebr_code.specs.declared.book.Initial.{Initial}
use Rattle.ebr_code.specs.declared.book.Unit as compiled
use Rattle.ebr_code.specs.Books.{Book}
use Rattle.ebr_code.specs.Runs.{part_of, making_of, part_at, making_in, making_with, parts_of}
use Rattle.ebr_running.specs.Rest.{calls_at}
use Rattle.ebr_calls.proofs.Counts.{Counts, CountsIn, evened, either, by_itself_counts}
use Rattle.ebr_calls.proofs.CodeCounts.{CallsCount, MeaningCounts, run_counts}

abbrev pub PartCounts : Option Part → Type 0
PartCounts None = Unit {0}
PartCounts (Some p) = MeaningCounts p.run

abbrev MakingCounts : Option Making → Type 0
MakingCounts None = Unit {0}
MakingCounts (Some m) = MeaningCounts m.run

record PartsCount (parts : Parts) : Type 0 where
  part : (f : Callee) → PartCounts (parts.part f)
  making : (p : Word) → MakingCounts (parts.making p)

-- ---- calls

pub returned_counts : (l : ℕ) (s : List Ask) (w : List Answer) (e : End) (function : Bool) (o : Outcome) → o.end ≡ e → Counts l s w o → Counts l s w (returned_on e function o)
returned_counts l s w Normal true o same h = record { left_is = h.left_is; made = h.made; used = h.used; asks_are = h.asks_are; given_are = h.given_are; even = evened l s w Normal o same h; kinds = h.kinds }
returned_counts l s w Normal false o same h = h
returned_counts l s w Exit function o same h = h
returned_counts l s w Continue function o same h = h
returned_counts l s w Returned function o same h = h
returned_counts l s w (Raised f) function o same h = h
returned_counts l s w (Stopped c) function o same h = h
returned_counts l s w Waiting function o same h = h

pub left_counts : (l : ℕ) (s : List Ask) (w : List Answer) (e : End) (p : Part) (m : Memory) (o : Outcome) → o.end ≡ e → Counts l s w o → Counts l s w (left_on e p m o)
left_counts l s w Waiting p m o same h = h
left_counts l s w (Raised f) p m o same h = record { left_is = h.left_is; made = h.made; used = h.used; asks_are = h.asks_are; given_are = h.given_are; even = evened l s w (Raised f) o same h; kinds = h.kinds }
left_counts l s w (Stopped c) p m o same h = record { left_is = h.left_is; made = h.made; used = h.used; asks_are = h.asks_are; given_are = h.given_are; even = evened l s w (Stopped c) o same h; kinds = h.kinds }
left_counts l s w Normal p m o same h = record { left_is = h.left_is; made = h.made; used = h.used; asks_are = h.asks_are; given_are = h.given_are; even = evened l s w Normal o same h; kinds = h.kinds }
left_counts l s w Exit p m o same h = record { left_is = h.left_is; made = h.made; used = h.used; asks_are = h.asks_are; given_are = h.given_are; even = evened l s w Exit o same h; kinds = h.kinds }
left_counts l s w Continue p m o same h = record { left_is = h.left_is; made = h.made; used = h.used; asks_are = h.asks_are; given_are = h.given_are; even = evened l s w Continue o same h; kinds = h.kinds }
left_counts l s w Returned p m o same h = record { left_is = h.left_is; made = h.made; used = h.used; asks_are = h.asks_are; given_are = h.given_are; even = evened l s w Returned o same h; kinds = h.kinds }

body_counts : (p : Part) → MeaningCounts p.run → (calls : Calls) → CallsCount calls → CountsIn (body p calls)
body_counts p h calls hc σ = by_itself_counts p.autonomous _ (λ τ.
    let o = p.run calls (bare τ) in
    let x = h.by calls hc (bare τ) in
    returned_counts τ.left τ.asks τ.answers o.end p.function o refl (record { left_is = x.left_is; made = x.made; used = x.used; asks_are = x.asks_are; given_are = x.given_are; even = x.even; kinds = x.kinds })) σ

pub entered_counts : (p : Part) → MeaningCounts p.run → (calls : Calls) → CallsCount calls → (vs : List Value) → CountsIn (entered p calls vs)
entered_counts p h calls hc vs σ =
    let o = body p calls (with_memory (fresh vs) σ) in
    let x = body_counts p h calls hc (with_memory (fresh vs) σ) in
    left_counts σ.left σ.asks σ.answers o.end p σ.memory o refl (record { left_is = x.left_is; made = x.made; used = x.used; asks_are = x.asks_are; given_are = x.given_are; even = x.even; kinds = x.kinds })

received_counts : (fs : List Formal) (vs : List Value) (next : Runs) → CountsIn next → CountsIn (received fs vs next)
received_counts [] vs next h σ = h σ
received_counts (f ∷ fs) [] next h σ = h σ
received_counts (f ∷ fs) (v ∷ vs) next h σ = either σ.left σ.asks σ.answers f.takes _ _ (fit_counts (unfit (Some f.ty) v) (received fs vs next) (received_counts fs vs next h) σ) (received_counts fs vs next h σ)
  where
    fit_counts : (o : Option Code) (k : Runs) → CountsIn k → CountsIn (when_fit o k)
    fit_counts None k g τ = g τ
    fit_counts (Some c) k g τ = record { left_is = refl; made = []; used = []; asks_are = sym (append-nil _); given_are = refl; even = refl; kinds = tt }

enter_counts : (p : Option Part) → PartCounts p → (f : Callee) (calls : Calls) → CallsCount calls → (vs : List Value) → CountsIn (enter p f calls vs)
enter_counts None h f calls hc vs σ = record { left_is = refl; made = []; used = []; asks_are = sym (append-nil _); given_are = refl; even = refl; kinds = tt }
enter_counts (Some p) h f calls hc vs σ = either σ.left σ.asks σ.answers (agrees f p) _ _ (received_counts p.formals vs (entered p calls vs) (entered_counts p h calls hc vs) σ) (record { left_is = refl; made = []; used = []; asks_are = sym (append-nil _); given_are = refl; even = refl; kinds = tt })

deep_counts : (p : Option Part) → CountsIn (too_deep p)
deep_counts None σ = record { left_is = refl; made = []; used = []; asks_are = sym (append-nil _); given_are = refl; even = refl; kinds = tt }
deep_counts (Some p) σ = record { left_is = refl; made = []; used = []; asks_are = sym (append-nil _); given_are = refl; even = refl; kinds = tt }

-- ---- packages

pub kept_counts : (l : ℕ) (s : List Ask) (w : List Answer) (e : End) (p : Word) (o : Outcome) → o.end ≡ e → Counts l s w o → Counts l s w (forget_on e p o)
kept_counts l s w (Raised f) p o same h = record { left_is = h.left_is; made = h.made; used = h.used; asks_are = h.asks_are; given_are = h.given_are; even = evened l s w (Raised f) o same h; kinds = h.kinds }
kept_counts l s w (Stopped c) p o same h = record { left_is = h.left_is; made = h.made; used = h.used; asks_are = h.asks_are; given_are = h.given_are; even = evened l s w (Stopped c) o same h; kinds = h.kinds }
kept_counts l s w Normal p o same h = h
kept_counts l s w Exit p o same h = h
kept_counts l s w Continue p o same h = h
kept_counts l s w Returned p o same h = h
kept_counts l s w Waiting p o same h = h

make_counts : (m : Option Making) → MakingCounts m → (made : Made) (p : Word) (calls : Calls) → CallsCount calls → CountsIn (make m made p calls)
make_counts None h made p calls hc σ = record { left_is = refl; made = []; used = []; asks_are = sym (append-nil _); given_are = refl; even = refl; kinds = tt }
make_counts (Some m) h made p calls hc σ =
    let first = bare (with_memory (fresh []) (with_packages (σ.packages ++ first_state p made m.stateful ∷ []) σ)) in
    let part : Part = record { formals = []; function = false; autonomous = false; run = m.run } in
    let o = m.run calls first in
    let x = h.by calls hc first in
    let o' = left part σ.memory o in
    kept_counts σ.left σ.asks σ.answers o'.end p o' refl (left_counts σ.left σ.asks σ.answers o.end part σ.memory o refl (record { left_is = x.left_is; made = x.made; used = x.used; asks_are = x.asks_are; given_are = x.given_are; even = x.even; kinds = x.kinds }))

outdated_counts : (b : Bool) (making : Runs) → CountsIn making → CountsIn (outdated b making)
outdated_counts true making g σ = record { left_is = refl; made = []; used = []; asks_are = sym (append-nil _); given_are = refl; even = refl; kinds = tt }
outdated_counts false making g σ = g σ

refer_to_counts : (s : Option PackageState) (made : Made) (p : Word) (making : Runs) → CountsIn making → CountsIn (refer_to s made p making)
refer_to_counts None made p making g σ = g σ
refer_to_counts (Some s) made p making g σ =
    let x = outdated_counts s.stateful making g (with_packages (forget p σ.packages) σ) in
    either σ.left σ.asks σ.answers (same_made s.made made) _ _ (record { left_is = refl; made = []; used = []; asks_are = sym (append-nil _); given_are = refl; even = refl; kinds = tt }) (record { left_is = x.left_is; made = x.made; used = x.used; asks_are = x.asks_are; given_are = x.given_are; even = x.even; kinds = x.kinds })

refer_in_counts : (row : Option Row) (r : Reference) (made : Made) (p : Word) (making : Runs) → CountsIn making → CountsIn (refer_in row r made p making)
refer_in_counts None r made p making g σ = refer_to_counts (state_of p σ.packages) made p making g σ
refer_in_counts (Some row) reference.Other made p making g σ = record { left_is = refl; made = []; used = []; asks_are = sym (append-nil _); given_are = refl; even = refl; kinds = tt }
refer_in_counts (Some row) reference.Data made p making g σ = record { left_is = refl; made = []; used = []; asks_are = sym (append-nil _); given_are = refl; even = refl; kinds = tt }

frames_count : (parts : Parts) → PartsCount parts → (refer : ℕ → Reference → Word → Runs) → ((n : ℕ) (r : Reference) (p : Word) → CountsIn (refer n r p)) → (n : ℕ) → CallsCount (by_frames parts refer n)
frames_count parts h refer g zero = record { call = λ f vs. deep_counts (parts.part f); refer = g zero }
frames_count parts h refer g (suc n) = record { call = λ f vs. enter_counts (parts.part f) (h.part f) f (by_frames parts refer n) (frames_count parts h refer g n) vs; refer = g (suc n) }

makings_count : (parts : Parts) → PartsCount parts → (m n : ℕ) (r : Reference) (p : Word) → CountsIn (by_makings parts m n r p)
makings_count parts h zero n r p σ =
    refer_in_counts σ.row r (parts.made p) p broken (λ τ. record { left_is = refl; made = []; used = []; asks_are = sym (append-nil _); given_are = refl; even = refl; kinds = tt }) σ
makings_count parts h (suc m) n r p σ =
    let calls = by_frames parts (by_makings parts m) n in
    refer_in_counts σ.row r (parts.made p) p (make (parts.making p) (parts.made p) p calls)
    (make_counts (parts.making p) (h.making p) (parts.made p) p calls (frames_count parts h (by_makings parts m) (makings_count parts h m) n)) σ

-- ---- the parts of a book

pub part_counts : (s : Option Subprogram) → PartCounts (option_map part_of s)
part_counts None = tt
part_counts (Some s) = run_counts s.code

unit_part_counts : (u : Option compiled.Unit) (at : ℕ) → PartCounts (option_and_then (λ (u : compiled.Unit). part_at u at) u)
unit_part_counts None at = tt
unit_part_counts (Some u) at = part_counts (slice_get u.subprograms at)

initial_counts : (i : Option Initial) → MakingCounts (option_map making_of i)
initial_counts None = tt
initial_counts (Some i) = run_counts i.code

unit_making_counts : (u : Option compiled.Unit) → MakingCounts (option_and_then making_in u)
unit_making_counts None = tt
unit_making_counts (Some u) = initial_counts u.initial

specified_part : (c : Class) (s : Option compiled.Unit) (p : Option Part) → PartCounts p → PartCounts (with_specification c s p)
specified_part class.Body None p h = tt
specified_part class.Body (Some s) p h = h
specified_part class.Unit s p h = h
specified_part class.Trigger s p h = h

specified_making : (s : Option compiled.Unit) (m : Option Making) → MakingCounts m → MakingCounts (with_specification class.Body s m)
specified_making None m h = tt
specified_making (Some s) m h = h

stamped_making : (book : Book) (p : Word) (s : Option Stamp) → MakingCounts (making_with book p s)
stamped_making book p None = unit_making_counts (book.unit (unit_key p))
stamped_making book p (Some s) = specified_making (book.unit (unit_key p)) _ (unit_making_counts (book.unit (body_key p)))

book_counts : (book : Book) → PartsCount (parts_of book)
book_counts book = record {
  part = λ f. specified_part f.unit.class (book.unit (unit_key f.unit.name)) _ (unit_part_counts (book.unit f.unit) f.place);
  making = λ p. stamped_making book p (book.stamp (body_key p));
}

pub calls_count : (book : Book) (m n : ℕ) → CallsCount (calls_at book m n)
calls_count book m n = frames_count (parts_of book) (book_counts book) (by_makings (parts_of book) m) (makings_count (parts_of book) (book_counts book) m) n
