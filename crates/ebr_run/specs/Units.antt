-- What the units of an edition do.
-- Oracle Database PL/SQL Language Reference 19c, CREATE PROCEDURE, CREATE FUNCTION, CREATE PACKAGE, CREATE PACKAGE BODY,
-- CREATE TRIGGER, and Block.
use Rattle.std.specs.Prelude.{ℕ, zero, suc, Bool, true, false, ◌||◌, if◌then◌else◌, List, [], map, length, slice_get, Option, Some, None, option_map, option_and_then}
use Rattle.std.specs.List.{list_any, filter_map}
use Rattle.ebr_base.specs.declared.numbers.Stamp.{Stamp}
use Rattle.ebr_base.specs.declared.object.Class.{Class}
use Rattle.ebr_base.specs.declared.object.Class.TheVariants as class
use Rattle.ebr_base.specs.declared.object.ObjectKey.{ObjectKey}
use Rattle.ebr_ast.specs.declared.statement.Block.{Block}
use Rattle.ebr_ast.specs.declared.statement.Block.{out-Block}
use Rattle.ebr_ast.specs.declared.statement.Decl.{Decl}
use Rattle.ebr_ast.specs.declared.statement.Decl.TheVariants as decl
use Rattle.ebr_ast.specs.declared.unit.Head.{Head}
use Rattle.ebr_ast.specs.declared.unit.Mode.{Mode}
use Rattle.ebr_ast.specs.declared.unit.Mode.TheVariants as mode
use Rattle.ebr_ast.specs.declared.unit.PackageBody.{PackageBody}
use Rattle.ebr_ast.specs.declared.unit.PackageItem.{PackageItem}
use Rattle.ebr_ast.specs.declared.unit.Parameter.{Parameter}
use Rattle.ebr_ast.specs.declared.unit.Subprogram.{Subprogram}
use Rattle.ebr_ast.specs.declared.unit.Trigger.{Trigger}
use Rattle.ebr_ast.specs.declared.unit.UnitTree.{UnitTree}
use Rattle.ebr_ast.specs.declared.unit.UnitTree.TheVariants as unit
use Rattle.ebr_ast.specs.declared.view.EditionView.{EditionView}
use Rattle.ebr_ast.specs.declared.view.Object.{Object}
use Rattle.ebr_ast.specs.Views.{object_of, unit_key}
use Rattle.ebr_names.specs.Headers.{head_in}
use Rattle.ebr_scope.specs.Meanings.{Word}
use Rattle.ebr_scope.specs.Names.{visible_items, is_function}
use Rattle.ebr_validity.specs.Units.{row_columns, columns_or_none}
use Rattle.ebr_validity.specs.Verdict.{is_valid}
use Rattle.ebr_run.specs.declared.callee.Callee.{Callee}
use Rattle.ebr_run.specs.State.{Runs, Normal, ended}
use Rattle.ebr_run.specs.Scope.{Env, parameter_type, body_key, declaration_in, with_parameters, with_heads, with_subprograms, part, hands_back}
use Rattle.ebr_run.specs.Expressions.{Calls}
use Rattle.ebr_run.specs.Statements.{declare_all, with_decls, guarded, meaning_of, handling_of, block_meaning}
use Rattle.ebr_run.specs.Calls.{Formal, Part, Making, Parts}

-- ---- where units stand

-- outside everything, in the text of an object
abbrev pub outside : EditionView → Option ObjectKey → Env
outside v u = record { view = v; scope = []; unit = u; path = []; owner = None; variables = 0; cursors = 0; handlers = 0; result = None; columns = [] }

-- inside a subprogram, which has variables and cursors of its own
abbrev pub within_subprogram : Head → Env → Env
within_subprogram h env =
    record (with_parameters h.parameters (record env { owner = None; variables = 0; cursors = 0 })) { result = option_map (parameter_type env.view) h.result }

-- where a package's declarations begin: all its subprograms are known
abbrev pub in_specification : EditionView → Word → List PackageItem → Env
in_specification v p items = with_heads p (filter_map head_in items) (record (outside v (Some (unit_key p))) { owner = Some p })

-- behind the declarations of a specification
abbrev pub behind_specification : EditionView → Word → List PackageItem → Env
behind_specification v p items = with_decls (filter_map declaration_in items) (in_specification v p items)

-- where a body's declarations begin
abbrev pub in_package_body : EditionView → PackageBody → Env
in_package_body v b =
    with_subprograms b.name 0 b.subprograms (record (behind_specification v b.name (visible_items v b.name)) { unit = Some (body_key b.name) })

-- where a body's subprograms and its initial part stand
abbrev pub behind_body : EditionView → PackageBody → Env
behind_body v b = with_decls b.declarations (in_package_body v b)

abbrev pub in_trigger : EditionView → Trigger → Env
in_trigger v t = record (outside v (Some (record { class = class.Trigger; name = t.name }))) { columns = columns_or_none (row_columns v t t.crossedition) }

-- ---- parts

abbrev pub takes_value : Option Mode → Bool
takes_value (Some mode.Out) = false
takes_value m = true

abbrev pub formal : EditionView → Parameter → Formal
formal v p = record { ty = parameter_type v p.ty; takes = takes_value p.mode; gives = hands_back p }

abbrev pub is_autonomous : Decl → Bool
is_autonomous decl.Autonomous = true
is_autonomous d = false

abbrev pub declarations_of : Block → List Decl
declarations_of b = (out-Block b).declarations

abbrev pub alone : Block → Bool
alone b = list_any is_autonomous (declarations_of b)

-- a procedure or a function, where it stands
abbrev pub subprogram_part : Env → Subprogram → Part
subprogram_part env s = record {
  formals = map (formal env.view) s.head.parameters;
  function = is_function s.head;
  autonomous = alone s.body;
  run = block_meaning s.body (within_subprogram s.head env);
}

abbrev pub block_part : Env → Block → Part
block_part env b = record { formals = []; function = false; autonomous = alone b; run = block_meaning b env }

-- a subprogram of a package's body, which is the part of the tree behind its initial part
abbrev pub packaged_part : EditionView → PackageBody → ℕ → Subprogram → Part
packaged_part v b at s = subprogram_part (part (suc at) (behind_body v b)) s

-- ---- units

-- the tree of the visible object of a key, where it is valid
abbrev pub if_valid : EditionView → UnitTree → Option UnitTree
if_valid v u = if is_valid v u then Some u else None

abbrev pub valid_unit : EditionView → ObjectKey → Option UnitTree
valid_unit v key = option_and_then (λ (o : Object). if_valid v o.tree) (object_of key v.objects)

-- the part at a place of a unit
abbrev pub part_at : EditionView → UnitTree → ℕ → Option Part
part_at v (unit.Subprogram s) zero = Some (subprogram_part (outside v (Some (unit_key s.head.name))) s)
part_at v (unit.PackageBody b) at = option_map (packaged_part v b at) (slice_get b.subprograms at)
part_at v (unit.Trigger t) zero = Some (block_part (in_trigger v t) t.body)
part_at v (unit.Block b) zero = Some (block_part (outside v None) b)
part_at v u at = None

-- a packaged subprogram needs a valid specification too
abbrev pub with_specification : {U A : Type 0} → Class → Option U → Option A → Option A
with_specification class.Body None a = None
with_specification c specification a = a

abbrev pub called_part : EditionView → Callee → Option Part
called_part v f =
    with_specification f.unit.class (valid_unit v (unit_key f.unit.name)) (option_and_then (λ (u : UnitTree). part_at v u f.place) (valid_unit v f.unit))

-- ---- packages

abbrev pub is_state : Decl → Bool
is_state (decl.Variable n c t e) = true
is_state (decl.Cursor n q) = true
is_state d = false

abbrev pub has_state : List Decl → Bool
has_state ds = list_any is_state ds

abbrev pub specification_run : EditionView → Word → List PackageItem → Calls → Runs → Runs
specification_run v p items calls next σ = declare_all (filter_map declaration_in items) (in_specification v p items) calls next σ

-- the initial part has variables and cursors of its own
abbrev pub in_initial_part : Env → Env
in_initial_part env = record (part 0 env) { owner = None; variables = 0; cursors = 0 }

-- the specification's declarations, the body's, and the initial part
abbrev pub body_run : EditionView → PackageBody → Calls → Runs
body_run v b calls σ =
    specification_run v b.name (visible_items v b.name) calls
    (declare_all b.declarations (in_package_body v b) calls
    (guarded (map meaning_of b.statements) (map handling_of b.handlers) (in_initial_part (behind_body v b)) calls)) σ

abbrev pub specification_making : EditionView → Word → List PackageItem → Making
specification_making v p items = record { stateful = has_state (filter_map declaration_in items); run = λ calls. specification_run v p items calls (ended Normal) }

abbrev pub body_making : EditionView → PackageBody → Making
body_making v b = record { stateful = has_state (filter_map declaration_in (visible_items v b.name)) || has_state b.declarations; run = body_run v b }

abbrev pub making_of : EditionView → UnitTree → Option Making
making_of v (unit.Package p items) = Some (specification_making v p items)
making_of v (unit.PackageBody b) = Some (body_making v b)
making_of v u = None

abbrev pub stamp_in : EditionView → ObjectKey → Option Stamp
stamp_in v key = option_map (λ (o : Object). o.stamp) (object_of key v.objects)

-- the body makes the state where one is visible, and else the specification
abbrev pub making_with : EditionView → Word → Option Stamp → Option Making
making_with v p None = option_and_then (making_of v) (valid_unit v (unit_key p))
making_with v p (Some s) = with_specification class.Body (valid_unit v (unit_key p)) (option_and_then (making_of v) (valid_unit v (body_key p)))

-- what an edition has
abbrev pub parts_of : EditionView → Parts
parts_of v = record {
  part = called_part v;
  making = λ p. making_with v p (stamp_in v (body_key p));
  made = λ p. record { specification = stamp_in v (unit_key p); body = stamp_in v (body_key p) };
  objects = length v.objects;
}
