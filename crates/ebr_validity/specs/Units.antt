-- The places in a unit.
-- Oracle Database PL/SQL Language Reference 19c, CREATE PROCEDURE, CREATE FUNCTION, CREATE PACKAGE, CREATE PACKAGE BODY,
-- CREATE TRIGGER, and Block.
use Rattle.std.specs.Prelude.{Bool, true, false, List, [], ◌∷◌, ◌++◌, map, filter_map, length, Option, Some, None, option_map, Result, Ok, Err}
use Rattle.ebr_base.specs.declared.code.Code.{Code}
use Rattle.ebr_base.specs.Keys.{table_named}
use Rattle.ebr_ast.specs.declared.unit.Direction.{Direction}
use Rattle.ebr_ast.specs.declared.unit.Head.{Head}
use Rattle.ebr_ast.specs.declared.unit.PackageBody.{PackageBody}
use Rattle.ebr_ast.specs.declared.unit.PackageItem.{PackageItem}
use Rattle.ebr_ast.specs.declared.unit.PackageItem.TheVariants as item
use Rattle.ebr_ast.specs.declared.unit.Parameter.{Parameter}
use Rattle.ebr_ast.specs.declared.unit.ParameterType.{ParameterType}
use Rattle.ebr_ast.specs.declared.unit.ParameterType.TheVariants as parameter
use Rattle.ebr_ast.specs.declared.unit.Subprogram.{Subprogram}
use Rattle.ebr_ast.specs.declared.unit.Trigger.{Trigger}
use Rattle.ebr_ast.specs.declared.unit.UnitTree.{UnitTree}
use Rattle.ebr_ast.specs.declared.unit.UnitTree.TheVariants as unit
use Rattle.ebr_ast.specs.declared.view.EditionView.{EditionView}
use Rattle.ebr_ast.specs.declared.view.Object.{Object}
use Rattle.ebr_ast.specs.Views.{unit_named}
use Rattle.ebr_names.specs.declared.column.ViewColumn.{ViewColumn}
use Rattle.ebr_names.specs.Columns.{columns_named, columns_of_table}
use Rattle.ebr_names.specs.Headers.{head_in, declaration_in}
use Rattle.ebr_scope.specs.Meanings.{Word, Scope}
use Rattle.ebr_scope.specs.Declarations.{column_type_of, parameter_type, decl_name, item_name, with_parameters, with_heads}
use Rattle.ebr_scope.specs.Names.{visible_items}
use Rattle.ebr_scope.specs.Around.{Env, outside, knowing, within_block}
use Rattle.ebr_validity.specs.Sites.{Site, Declares, OfColumn, Pragmas, Specifies, Implements, OnRows}
use Rattle.ebr_validity.specs.Targets.{In}
use Rattle.ebr_validity.specs.Statements.{each, decl_sites, decls_sites, with_decl, with_decls, handlers, in_statement, in_handler, in_body}

-- ---- heads and subprograms

abbrev pub type_sites : ParameterType → In
type_sites parameter.Number env = []
type_sites parameter.Integer env = []
type_sites parameter.Varchar2 env = []
type_sites parameter.Boolean env = []
type_sites (parameter.OfColumn n m) env = OfColumn (column_type_of env.view n m) ∷ []

abbrev pub result_sites : Option ParameterType → In
result_sites None env = []
result_sites (Some t) env = type_sites t env

abbrev pub parameter_sites : List Parameter → In
parameter_sites [] env = []
parameter_sites (p ∷ ps) env = type_sites p.ty env ++ parameter_sites ps env

abbrev pub parameter_name : Parameter → Word
parameter_name p = p.name

abbrev pub head_sites : Head → In
head_sites h env = Declares (map parameter_name h.parameters) ∷ (parameter_sites h.parameters env ++ result_sites h.result env)

-- a subprogram's parameters are a scope of their own, outside its declarations
abbrev pub in_subprogram : Head → Env → Env
in_subprogram h env = record env { scope = with_parameters env.view h.parameters env.scope; result = option_map (parameter_type env.view) h.result }

abbrev pub subprogram_sites : Subprogram → In
subprogram_sites s env = head_sites s.head env ++ in_body s.body (in_subprogram s.head env)

abbrev pub subprograms_sites : List Subprogram → In
subprograms_sites [] env = []
subprograms_sites (s ∷ ss) env = subprogram_sites s env ++ subprograms_sites ss env

-- ---- packages

-- the subprograms of a package are known everywhere in it
abbrev pub in_specification : List PackageItem → Env → Env
in_specification items env = knowing (with_heads (filter_map head_in items) env.scope) env

abbrev pub item_sites : PackageItem → In
item_sites (item.Decl d) env = decl_sites d env
item_sites (item.Head h) env = head_sites h env

abbrev pub with_item : PackageItem → Env → Scope
with_item (item.Decl d) env = with_decl d env
with_item (item.Head h) env = env.scope

abbrev pub items_sites : List PackageItem → In
items_sites [] env = []
items_sites (i ∷ is) env = item_sites i env ++ items_sites is (knowing (with_item i env) env)

abbrev pub package_sites : List PackageItem → In
package_sites items env =
    Specifies items ∷ Declares (filter_map item_name items) ∷ Pragmas false (filter_map declaration_in items) ∷ items_sites items (in_specification items env)

abbrev pub head_of_subprogram : Subprogram → Head
head_of_subprogram s = s.head

abbrev pub head_name : Head → Word
head_name h = h.name

-- all names of the specification are known in the body
abbrev pub behind_specification : List PackageItem → Env → Env
behind_specification items env = knowing (with_decls (filter_map declaration_in items) (in_specification items env)) env

-- behind its specification, whose names are the outermost ones
abbrev pub in_package_body : Word → List Head → Env → Env
in_package_body p heads env = record env { scope = with_heads heads env.scope; own = Some (record { name = p; declares = length env.scope }) }

abbrev pub tree_of : Option Object → Option UnitTree
tree_of o = option_map (λ (o : Object). o.tree) o

-- the initial part of a body, with its handlers: a block in it is no outermost one
abbrev pub initial_part : PackageBody → In
initial_part b env = each (map in_statement b.statements) env ++ handlers (map in_handler b.handlers) env

abbrev pub body_parts : PackageBody → In
body_parts b env =
    let scope = with_decls b.declarations env in
    decls_sites b.declarations env ++ (subprograms_sites b.subprograms (knowing scope env) ++ initial_part b (within_block scope env))

abbrev pub package_body_sites : PackageBody → In
package_body_sites b env =
    let heads = map head_of_subprogram b.subprograms in
    Implements (tree_of (unit_named b.name env.view.objects)) heads
    ∷ Declares (filter_map decl_name b.declarations ++ map head_name heads)
    ∷ Pragmas false b.declarations
    ∷ body_parts b (in_package_body b.name heads (behind_specification (visible_items env.view b.name) env))

-- ---- triggers

-- the columns of what a trigger is on; a crossedition trigger is on a table
abbrev pub row_columns : EditionView → Trigger → Option Direction → Result (List ViewColumn) Code
row_columns v t None = columns_named v t.on
row_columns v t (Some direction) = columns_of_table (table_named t.on v.tables)

abbrev pub is_ok : {A : Type 0} → Result A Code → Bool
is_ok (Ok a) = true
is_ok (Err code) = false

abbrev pub columns_or_none : Result (List ViewColumn) Code → List ViewColumn
columns_or_none (Ok columns) = columns
columns_or_none (Err code) = []

abbrev pub trigger_body : Trigger → List ViewColumn → In
trigger_body t columns env = in_body t.body (record env { timing = Some t.timing; columns = columns })

abbrev pub trigger_over : Trigger → Result (List ViewColumn) Code → In
trigger_over t columns env = OnRows (is_ok columns) ∷ trigger_body t (columns_or_none columns) env

-- ---- units

abbrev pub unit_sites : UnitTree → In
unit_sites (unit.Subprogram s) env = subprogram_sites s env
unit_sites (unit.Package name items) env = package_sites items env
unit_sites (unit.PackageBody b) env = package_body_sites b env
unit_sites (unit.Trigger t) env = trigger_over t (row_columns env.view t t.crossedition) env
unit_sites (unit.View view) env = []
unit_sites (unit.Block b) env = in_body b env

-- the places of a unit against what an edition sees
abbrev pub sites_in : EditionView → UnitTree → List Site
sites_in v u = unit_sites u (outside v)
