-- What a statement changes, with columns told by their places in the table, counted from 0.
-- Oracle Database SQL Language Reference 19c, INSERT, UPDATE and DELETE; Oracle Database Development Guide 19c, Using
-- Edition-Based Redefinition, Editioning Views: a view's columns are its base's. APPLY TRIGGER is own.
--
-- In a statement that has passed its checks each name is there. What is answered where one isn't is the code of these checks.
use Rattle.std.specs.Prelude.{ℕ, List, [], ◌∷◌, map, Option, Some, None, option_map, Result, Ok, Err}
use Rattle.ebr_base.specs.declared.code.Code.{Code}
use Rattle.ebr_base.specs.declared.code.Code.TheVariants.{Ora}
use Rattle.ebr_base.specs.declared.object.Class.TheVariants as class
use Rattle.ebr_base.specs.declared.object.ObjectKey.{ObjectKey}
use Rattle.ebr_base.specs.declared.table.TableDef.{TableDef}
use Rattle.ebr_base.specs.Keys.{table_named}
use Rattle.ebr_exprtree.specs.declared.expression.Expr.{Expr}
use Rattle.ebr_ast.specs.declared.sql.Assignment.{Assignment}
use Rattle.ebr_ast.specs.declared.sql.Delete.{Delete}
use Rattle.ebr_ast.specs.declared.sql.Insert.{Insert}
use Rattle.ebr_ast.specs.declared.sql.SqlTree.{SqlTree}
use Rattle.ebr_ast.specs.declared.sql.SqlTree.TheVariants as sql
use Rattle.ebr_ast.specs.declared.sql.Update.{Update}
use Rattle.ebr_ast.specs.declared.unit.UnitTree.{UnitTree}
use Rattle.ebr_ast.specs.declared.unit.UnitTree.TheVariants as unit
use Rattle.ebr_ast.specs.declared.view.EditionView.{EditionView}
use Rattle.ebr_ast.specs.declared.view.Object.{Object}
use Rattle.ebr_ast.specs.Views.{object_of}
use Rattle.ebr_names.specs.declared.column.ViewColumn.{ViewColumn}
use Rattle.ebr_names.specs.Columns.{column_named, columns_named}
use Rattle.ebr_sqlcheck.specs.Checked.{on, not_there}
use Rattle.ebr_sqlcheck.specs.Sources.{Relation}
use Rattle.ebr_sqlcheck.specs.Statements.{only_relation}
use Rattle.ebr_query.specs.Places.{placed}
use Rattle.ebr_query.specs.Results.{all}
use Rattle.ebr_query.specs.Seen.{table_of}
use Rattle.ebr_dml.specs.declared.plan.Plan.{Plan}
use Rattle.ebr_dml.specs.declared.plan.Setting.{Setting}
use Rattle.ebr_dml.specs.declared.plan.Work.{Work}
use Rattle.ebr_dml.specs.declared.plan.Work.TheVariants.{Set, Remove}

-- something that is to be there, or else a code
abbrev pub there : {A : Type 0} → Code → Option A → Result A Code
there code None = Err code
there code (Some a) = Ok a

abbrev pub place_of_column : ViewColumn → ℕ
place_of_column c = c.place

abbrev pub places_of : List ViewColumn → List ℕ
places_of columns = map place_of_column columns

-- the place in the table of the column of a name
abbrev pub place_named : List ViewColumn → List ℕ → Result ℕ Code
place_named columns name = there not_there (option_map place_of_column (column_named name columns))

abbrev pub setting : ℕ → Expr → Setting
setting place value = record { place = place; value = value }

-- ---- the columns that get values

-- SET: the expressions are over the columns of the one source
abbrev pub set_of : Relation → Assignment → Result Setting Code
set_of r a = on (λ place. Ok (setting place (placed (r ∷ []) a.value))) (place_named r.columns a.column)

-- an INSERT sets the columns that it names, or all where it names none
abbrev pub insert_places : List ViewColumn → List (List ℕ) → Result (List ℕ) Code
insert_places columns [] = Ok (places_of columns)
insert_places columns (name ∷ names) = all (map (place_named columns) (name ∷ names))

-- VALUES: each for its column
abbrev pub settings : List ℕ → List Expr → List Setting
settings (place ∷ places) (e ∷ rest) = setting place e ∷ settings places rest
settings places list = []

-- ---- the statements

abbrev pub over : EditionView → List ℕ → List ℕ → Option Expr → Work → Result Plan Code
over v name source filter work =
    on (λ table. Ok (record { table = table; source = source; filter = filter; work = work })) (there (Ora 942) (table_of v name))

-- an INSERT's values are over no source
abbrev pub insert_plan : EditionView → Insert → Result Plan Code
insert_plan v i =
    on (λ columns. on (λ places. over v i.table [] None (Set (settings places i.values))) (insert_places columns i.columns)) (columns_named v i.table)

abbrev pub update_over : EditionView → Update → Relation → Result Plan Code
update_over v u r =
    on (λ sets. over v u.table (places_of r.columns) (option_map (placed (r ∷ [])) u.filter) (Set sets)) (all (map (set_of r) u.sets))

abbrev pub update_plan : EditionView → Update → Result Plan Code
update_plan v u = on (update_over v u) (only_relation v u.table u.alias)

abbrev pub delete_over : EditionView → Delete → Relation → Result Plan Code
delete_over v d r = over v d.table (places_of r.columns) (option_map (placed (r ∷ [])) d.filter) Remove

abbrev pub delete_plan : EditionView → Delete → Result Plan Code
delete_plan v d = on (delete_over v d) (only_relation v d.table d.alias)

-- ---- APPLY TRIGGER

abbrev pub trigger_key : List ℕ → ObjectKey
trigger_key name = record { class = class.Trigger; name = name }

-- ORA-04043 where it is no trigger; ORA-04098 where its table isn't there, so that the trigger is invalid
abbrev pub tree_table : List TableDef → UnitTree → Result TableDef Code
tree_table tables (unit.Trigger trigger) = there (Ora 4098) (table_named trigger.on tables)
tree_table tables tree = Err (Ora 4043)

abbrev pub object_table : List TableDef → Option Object → Result TableDef Code
object_table tables None = Err (Ora 4043)
object_table tables (Some o) = tree_table tables o.tree

-- the table of a trigger, which is looked up among tables alone, as that of each crossedition trigger is
abbrev pub trigger_table : EditionView → List ℕ → Result TableDef Code
trigger_table v name = object_table v.tables (object_of (trigger_key name) v.objects)

-- It updates all rows, each with its own values.
abbrev pub apply_plan : EditionView → List ℕ → Result Plan Code
apply_plan v name = on (λ table. Ok (record { table = table; source = []; filter = None; work = Set [] })) (trigger_table v name)

-- What a statement does. A query changes no row: ORA-00900.
abbrev pub plan_of : EditionView → SqlTree → Result Plan Code
plan_of v (sql.Query q) = Err (Ora 900)
plan_of v (sql.Insert i) = insert_plan v i
plan_of v (sql.Update u) = update_plan v u
plan_of v (sql.Delete d) = delete_plan v d
plan_of v (sql.Apply name) = apply_plan v name
