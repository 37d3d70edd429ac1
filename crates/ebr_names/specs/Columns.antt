-- The columns behind a name.
-- Oracle Database Development Guide 19c, Using Edition-Based Redefinition, Editioning Views. That a view is mapped to its
-- base by name at each use is own.
use Rattle.std.specs.Prelude.{ℕ, suc, List, [], ◌∷◌, find, slice_get, Option, Some, None, Result, Ok, Err}
use Rattle.std.specs.Option.{unwrap_or}
use Rattle.std.specs.Str.{bytes_eq}
use Rattle.ebr_base.specs.declared.code.Code.{Code}
use Rattle.ebr_base.specs.declared.code.Code.TheVariants.{Ora}
use Rattle.ebr_base.specs.declared.table.Column.{Column}
use Rattle.ebr_base.specs.declared.table.TableDef.{TableDef}
use Rattle.ebr_base.specs.Keys.{table_named}
use Rattle.ebr_ast.specs.declared.unit.EditioningView.{EditioningView}
use Rattle.ebr_ast.specs.declared.unit.UnitTree.{UnitTree}
use Rattle.ebr_ast.specs.declared.unit.UnitTree.TheVariants as unit
use Rattle.ebr_ast.specs.declared.unit.ViewItem.{ViewItem}
use Rattle.ebr_ast.specs.declared.view.EditionView.{EditionView}
use Rattle.ebr_ast.specs.declared.view.Object.{Object}
use Rattle.ebr_ast.specs.Views.{unit_named}
use Rattle.ebr_names.specs.declared.column.ViewColumn.{ViewColumn}

-- a table's columns with their places, the first of which is given
abbrev pub table_columns : ℕ → List Column → List ViewColumn
table_columns place [] = []
table_columns place (c ∷ cs) = record { name = c.name; place = place; ty = c.ty } ∷ table_columns (suc place) cs

abbrev pub column_named : List ℕ → List ViewColumn → Option ViewColumn
column_named name columns = find (λ (c : ViewColumn). bytes_eq name c.name) columns

-- the name of a view's column: the listed one, or else the item's alias, or else its column's own
abbrev pub item_name : Option (List ℕ) → ViewItem → List ℕ
item_name listed i = unwrap_or listed (unwrap_or i.alias i.column)

-- the base's column under the name that it has in the view; ORA-00904 where the base doesn't have it
abbrev pub item_column : List ℕ → Option ViewColumn → Result ViewColumn Code
item_column name None = Err (Ora 904)
item_column name (Some c) = Ok (record c { name = name })

-- one column and those behind it, or the first code
abbrev pub with_columns : ViewColumn → Result (List ViewColumn) Code → Result (List ViewColumn) Code
with_columns c (Ok cs) = Ok (c ∷ cs)
with_columns c (Err code) = Err code

abbrev pub with_column : Result ViewColumn Code → Result (List ViewColumn) Code → Result (List ViewColumn) Code
with_column (Ok c) rest = with_columns c rest
with_column (Err code) rest = Err code

-- the columns of a view's items, the first of which stands at a place, over the columns of its base
abbrev pub view_columns : List ViewColumn → List (List ℕ) → ℕ → List ViewItem → Result (List ViewColumn) Code
view_columns base names at [] = Ok []
view_columns base names at (i ∷ items) =
    with_column (item_column (item_name (slice_get names at) i) (column_named i.column base)) (view_columns base names (suc at) items)

-- An editioning view's columns, mapped to its base by name; ORA-00942 where there is no such table.
abbrev pub mapped : EditioningView → Option TableDef → Result (List ViewColumn) Code
mapped view None = Err (Ora 942)
mapped view (Some base) = view_columns (table_columns 0 base.columns) view.names 0 view.items

-- the base of an editioning view is looked up among tables alone; other units have no columns
abbrev pub unit_columns : List TableDef → UnitTree → Result (List ViewColumn) Code
unit_columns tables (unit.View view) = mapped view (table_named view.table tables)
unit_columns tables tree = Err (Ora 942)

abbrev pub columns_of_table : Option TableDef → Result (List ViewColumn) Code
columns_of_table None = Err (Ora 942)
columns_of_table (Some def) = Ok (table_columns 0 def.columns)

abbrev pub columns_of : List TableDef → Option Object → Option TableDef → Result (List ViewColumn) Code
columns_of tables (Some o) def = unit_columns tables o.tree
columns_of tables None def = columns_of_table def

-- What `columns` answers for a name: the columns of what the name means, or ORA-00942 where that has none.
abbrev pub columns_named : EditionView → List ℕ → Result (List ViewColumn) Code
columns_named v name = columns_of v.tables (unit_named name v.objects) (table_named name v.tables)
