-- Calls of subprograms and references to packages.
-- Oracle Database PL/SQL Language Reference 19c, PL/SQL Subprograms, Package State, and AUTONOMOUS_TRANSACTION Pragma; that
-- a parameter is assigned at the call, and the order of the refusals, is own.
--
-- The units are told by what their parts do, so that the same words say what calls do by trees and by code.
use Rattle.std.specs.Prelude.{ℕ, zero, suc, nat_eq, Bool, true, false, ◌&&◌, if◌then◌else◌, List, [], ◌∷◌, ◌++◌, length, Option, Some, None}
use Rattle.ebr_base.specs.declared.value.Value.{Value}
use Rattle.ebr_run.specs.declared.callee.Callee.{Callee}
use Rattle.ebr_run.specs.declared.callee.Reference.{Reference}
use Rattle.ebr_run.specs.declared.callee.Reference.TheVariants as reference
use Rattle.ebr_run.specs.declared.place.VariableType.{VariableType}
use Rattle.ebr_run.specs.Faults.{ora, ebr}
use Rattle.ebr_run.specs.Packages.{PackageState, Made, state_of, forget, same_made}
use Rattle.ebr_run.specs.State.{Memory, Row, State, Runs, Outcome, End, Normal, Raised, Stopped, Waiting, with_memory, with_operands, with_packages, bare, ended, done, raises, broken, by_itself}
use Rattle.ebr_run.specs.Values.{unfit, when_fit, variable}
use Rattle.ebr_run.specs.Expressions.{Calls}
use Rattle.ebr_scope.specs.Meanings.{Word}

-- a parameter: its type, whether it takes the argument's value, and whether it hands a value back
pub record Formal : Type 0 where
  pub ty : VariableType
  pub takes : Bool
  pub gives : Bool

-- a procedure, a function or a trigger's body
pub record Part : Type 0 where
  pub formals : List Formal
  pub function : Bool
  pub autonomous : Bool
  pub run : Calls → Runs

-- how a package's state is made
pub record Making : Type 0 where
  pub stateful : Bool
  pub run : Calls → Runs

-- what an edition has: the parts of valid units, how packages are made that are valid, what they are made from, and how many
-- objects are visible
pub record Parts : Type 0 where
  pub part : Callee → Option Part
  pub making : Word → Option Making
  pub made : Word → Made
  pub objects : ℕ

-- ---- leaving a subprogram

-- a function ends by RETURN
abbrev pub returned_on : End → Bool → Outcome → Outcome
returned_on Normal true o = raises (ora 6503) o.state
returned_on e function o = o

abbrev pub returned : Bool → Outcome → Outcome
returned function o = returned_on o.end function o

-- the values of the parameters that hand one back, the first of which is the variable at a place
abbrev pub handed_back : ℕ → List Formal → State → List Value
handed_back k [] σ = []
handed_back k (f ∷ fs) σ = if f.gives then variable k σ ∷ handed_back (suc k) fs σ else handed_back (suc k) fs σ

-- what was computed is what a function gives
abbrev pub result_values : Bool → List Value → List Value
result_values true vs = vs
result_values false vs = []

-- the caller goes on with its own memory, and with what is given back
abbrev pub back_in : Memory → List Value → State → State
back_in m vs σ = with_operands vs (with_memory m σ)

abbrev pub left_on : End → Part → Memory → Outcome → Outcome
left_on Waiting p m o = o
left_on (Raised f) p m o = ended (Raised f) (back_in m [] o.state)
left_on (Stopped c) p m o = ended (Stopped c) (back_in m [] o.state)
left_on e p m o = ended Normal (back_in m (result_values p.function o.state.memory.operands ++ handed_back 0 p.formals o.state) o.state)

abbrev pub left : Part → Memory → Outcome → Outcome
left p m o = left_on o.end p m o

-- ---- calls

-- the memory of a subprogram that begins: its parameters are its first variables
abbrev pub fresh : List Value → Memory
fresh vs = record { variables = vs; cursors = []; faults = []; operands = [] }

abbrev pub body : Part → Calls → Runs
body p calls σ = by_itself p.autonomous (λ τ. returned p.function (p.run calls (bare τ))) σ

-- a part runs with its arguments
abbrev pub entered : Part → Calls → List Value → Runs
entered p calls vs σ = left p σ.memory (body p calls (with_memory (fresh vs) σ))

-- Passing an argument is an assignment to the parameter.
abbrev pub received : List Formal → List Value → Runs → Runs
received (f ∷ fs) (v ∷ vs) next σ = if f.takes then when_fit (unfit (Some f.ty) v) (received fs vs next) σ else received fs vs next σ
received fs vs next σ = next σ

abbrev pub giving : List Formal → ℕ
giving [] = 0
giving (f ∷ fs) = if f.gives then suc (giving fs) else giving fs

abbrev pub results : Part → ℕ
results p = if p.function then suc (giving p.formals) else giving p.formals

-- whether a call has the shape that the part has
abbrev pub agrees : Callee → Part → Bool
agrees f p = nat_eq f.arguments (length p.formals) && nat_eq f.results (results p)

abbrev pub enter : Option Part → Callee → Calls → List Value → Runs
enter None f calls vs σ = raises (ora 6508) σ
enter (Some p) f calls vs σ = if agrees f p then received p.formals vs (entered p calls vs) σ else broken σ

-- a call for which no frame is left
abbrev pub too_deep : Option Part → Runs
too_deep None σ = raises (ora 6508) σ
too_deep (Some p) σ = raises (ebr 8) σ

-- ---- packages

-- the making that fails takes the state away
abbrev pub forget_on : End → Word → Outcome → Outcome
forget_on (Raised f) p o = ended (Raised f) (with_packages (forget p o.state.packages) o.state)
forget_on (Stopped c) p o = ended (Stopped c) (with_packages (forget p o.state.packages) o.state)
forget_on e p o = o

abbrev pub forget_if_failed : Word → Outcome → Outcome
forget_if_failed p o = forget_on o.end p o

abbrev pub first_state : Word → Made → Bool → PackageState
first_state p made stateful = record { name = p; made = made; stateful = stateful; members = []; cursors = [] }

-- The state is there while it is made; what has no value yet is NULL.
abbrev pub make : Option Making → Made → Word → Calls → Runs
make None made p calls σ = raises (ora 6508) σ
make (Some m) made p calls σ =
    forget_if_failed p (left (record { formals = []; function = false; autonomous = false; run = m.run }) σ.memory
    (m.run calls (bare (with_memory (fresh []) (with_packages (σ.packages ++ first_state p made m.stateful ∷ []) σ)))))

-- The state was made from what is no longer visible: it is lost, and where there was anything in it, ORA-04068 is raised.
abbrev pub outdated : Bool → Runs → Runs
outdated true making σ = raises (ora 4068) σ
outdated false making σ = making σ

-- a reference to a package that would be made from this now, by this making
abbrev pub refer_to : Option PackageState → Made → Word → Runs → Runs
refer_to None made p making σ = making σ
refer_to (Some s) made p making σ = if same_made s.made made then done σ else outdated s.stateful making (with_packages (forget p σ.packages) σ)

-- Under a trigger no package is made, and none of its variables and cursors may be used (own).
abbrev pub refer_in : Option Row → Reference → Made → Word → Runs → Runs
refer_in None r made p making σ = refer_to (state_of p σ.packages) made p making σ
refer_in (Some row) reference.Other made p making σ = done σ
refer_in (Some row) reference.Data made p making σ = raises (ebr 12) σ

-- ---- the calls, with so many frames and makings left

abbrev pub by_frames : Parts → (ℕ → Reference → Word → Runs) → ℕ → Calls
by_frames parts refer zero = record { call = λ f vs σ. too_deep (parts.part f) σ; refer = refer zero }
by_frames parts refer (suc n) = record { call = λ f vs σ. enter (parts.part f) f (by_frames parts refer n) vs σ; refer = refer (suc n) }

-- A making is no frame. Each one inside another is of another visible package, so that as many as there are visible objects
-- suffice.
abbrev pub by_makings : Parts → ℕ → ℕ → Reference → Word → Runs
by_makings parts zero n r p σ = refer_in σ.row r (parts.made p) p broken σ
by_makings parts (suc m) n r p σ =
    refer_in σ.row r (parts.made p) p (make (parts.making p) (parts.made p) p (by_frames parts (by_makings parts m) n)) σ

-- the block or body that runs is the first of 1,000 frames
abbrev pub most_calls : ℕ
most_calls = 999

abbrev pub calls_of : Parts → Calls
calls_of parts = by_frames parts (by_makings parts parts.objects) most_calls
