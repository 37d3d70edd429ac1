-- The slot code of units.
use Rattle.std.specs.Prelude.{ℕ, suc, ◌≡◌, false, ◌||◌, List, [], ◌∷◌, ◌++◌, map, Some, None}
use Rattle.std.specs.List.{filter_map}
use Rattle.ebr_ast.specs.declared.statement.Block.{Block}
use Rattle.ebr_ast.specs.declared.unit.PackageBody.{PackageBody}
use Rattle.ebr_ast.specs.declared.unit.PackageItem.{PackageItem}
use Rattle.ebr_ast.specs.declared.unit.Parameter.{Parameter as Written}
use Rattle.ebr_ast.specs.declared.unit.Subprogram as written
use Rattle.ebr_ast.specs.declared.unit.UnitTree.{UnitTree}
use Rattle.ebr_ast.specs.declared.unit.UnitTree.TheVariants as unit
use Rattle.ebr_ast.specs.declared.view.EditionView.{EditionView}
use Rattle.ebr_ast.specs.Views.{unit_key}
use Rattle.ebr_scope.specs.Meanings.{Word}
use Rattle.ebr_scope.specs.Names.{visible_items, is_function}
use Rattle.ebr_run.specs.Scope.{Env, parameter_type, declaration_in, part, hands_back}
use Rattle.ebr_run.specs.Units.{outside, within_subprogram, in_specification, in_package_body, behind_body, in_trigger, in_initial_part, takes_value, alone, has_state}
use Rattle.ebr_code.specs.declared.book.Parameter.{Parameter}
use Rattle.ebr_code.specs.declared.book.Subprogram.{Subprogram}
use Rattle.ebr_code.specs.declared.book.Initial.{Initial}
use Rattle.ebr_code.specs.declared.book.Unit as compiled
use Rattle.ebr_code.specs.declared.instruction.Instruction.{Instruction}
use Rattle.ebr_code.specs.Codes.{decls_code, guarded_code, block_code, stmt_code, handler_code}

abbrev pub parameter_code : EditionView → Written → Parameter
parameter_code v p = record { ty = parameter_type v p.ty; takes = takes_value p.mode; gives = hands_back p }

abbrev pub subprogram_code : Env → written.Subprogram → Subprogram
subprogram_code env s = record {
  parameters = map (parameter_code env.view) s.head.parameters;
  function = is_function s.head;
  autonomous = alone s.body;
  code = block_code s.body (within_subprogram s.head env);
}

abbrev pub block_unit : Env → Block → Subprogram
block_unit env b = record { parameters = []; function = false; autonomous = alone b; code = block_code b env }

-- the subprograms of a body, the first of which has a place
abbrev pub subprograms_code : ℕ → List written.Subprogram → Env → List Subprogram
subprograms_code at [] env = []
subprograms_code at (s ∷ ss) env = subprogram_code (part (suc at) env) s ∷ subprograms_code (suc at) ss env

abbrev pub specification_code : EditionView → Word → List PackageItem → List Instruction
specification_code v p items = decls_code (filter_map declaration_in items) (in_specification v p items)

abbrev pub specification_initial : EditionView → Word → List PackageItem → Initial
specification_initial v p items = record { stateful = has_state (filter_map declaration_in items); code = specification_code v p items }

abbrev pub body_code : EditionView → PackageBody → List Instruction
body_code v b =
    specification_code v b.name (visible_items v b.name)
    ++ (decls_code b.declarations (in_package_body v b)
    ++ guarded_code (map stmt_code b.statements) (map handler_code b.handlers) (in_initial_part (behind_body v b)))

abbrev pub body_initial : EditionView → PackageBody → Initial
body_initial v b = record { stateful = has_state (filter_map declaration_in (visible_items v b.name)) || has_state b.declarations; code = body_code v b }

abbrev pub of_one : Subprogram → compiled.Unit
of_one s = record { subprograms = s ∷ []; initial = None }

-- The compiled unit of a tree, as the edition's view has it.
abbrev pub unit_code : EditionView → UnitTree → compiled.Unit
unit_code v (unit.Subprogram s) = of_one (subprogram_code (outside v (Some (unit_key s.head.name))) s)
unit_code v (unit.Package p items) = record { subprograms = []; initial = Some (specification_initial v p items) }
unit_code v (unit.PackageBody b) = record { subprograms = subprograms_code 0 b.subprograms (behind_body v b); initial = Some (body_initial v b) }
unit_code v (unit.Trigger t) = of_one (block_unit (in_trigger v t) t.body)
unit_code v (unit.View view) = record { subprograms = []; initial = None }
unit_code v (unit.Block b) = of_one (block_unit (outside v None) b)

-- A tree and its slot code.
abbrev pub Codes : EditionView → UnitTree → compiled.Unit → Type 0
Codes v u c = c ≡ unit_code v u
