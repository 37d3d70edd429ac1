-- What a name in code or SQL means.
-- Oracle Database Development Guide 19c, Using Edition-Based Redefinition, Name Resolution for Editioned and Noneditioned
-- Objects; that objects go before tables is own.
use Rattle.std.specs.Prelude.{ℕ, List, slice_get, Option, Some, None, option_map}
use Rattle.std.specs.List.{position}
use Rattle.ebr_base.specs.declared.table.TableDef.{TableDef}
use Rattle.ebr_base.specs.Keys.{same_key, table_named}
use Rattle.ebr_ast.specs.declared.unit.UnitTree.{UnitTree}
use Rattle.ebr_ast.specs.declared.unit.UnitTree.TheVariants as unit
use Rattle.ebr_ast.specs.declared.view.EditionView.{EditionView}
use Rattle.ebr_ast.specs.declared.view.Object.{Object}
use Rattle.ebr_ast.specs.Views.{unit_key}
use Rattle.ebr_names.specs.declared.target.Target.{Target}
use Rattle.ebr_names.specs.declared.target.Target.TheVariants.{View, Table, Unit}

-- the place, counted from 0, of the object of class Unit that has a name
abbrev pub unit_place : List ℕ → List Object → Option ℕ
unit_place name objects = position (λ (o : Object). same_key (unit_key name) o.key) objects

-- an object at a place, as what a name means
abbrev pub target_at : ℕ → UnitTree → Target
target_at at (unit.View view) = View at
target_at at tree = Unit at

abbrev pub unit_target : ℕ → Option Object → Option Target
unit_target at o = option_map (λ (o : Object). target_at at o.tree) o

abbrev pub table_target : Option TableDef → Option Target
table_target def = option_map (λ (d : TableDef). Table d.id) def

abbrev pub resolved_at : EditionView → List ℕ → Option ℕ → Option Target
resolved_at v name (Some at) = unit_target at (slice_get v.objects at)
resolved_at v name None = table_target (table_named name v.tables)

-- What a name means: the visible object of class Unit that has it, and else the table that has it.
abbrev pub resolved : EditionView → List ℕ → Option Target
resolved v name = resolved_at v name (unit_place name v.objects)
