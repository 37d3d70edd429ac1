-- What a SQL statement is checked for, in this order (own): its sources; the columns that it sets; the names in its
-- expressions; types; aggregates and FOR UPDATE. The first fault of the first of these checks that finds one is the answer.
use Rattle.std.specs.Prelude.{ℕ, suc, List, [], ◌∷◌, map, length, Option, Some, None, Result, Ok}
use Rattle.std.specs.Option.{unwrap_or}
use Rattle.ebr_base.specs.declared.code.Code.{Code}
use Rattle.ebr_base.specs.declared.value.Value.{Value}
use Rattle.ebr_exprtree.specs.declared.expression.Expr.{Expr}
use Rattle.ebr_ast.specs.declared.query.Aggregate.{Aggregate}
use Rattle.ebr_ast.specs.declared.query.Aggregate.TheVariants as aggregate
use Rattle.ebr_ast.specs.declared.query.Item.{Item}
use Rattle.ebr_ast.specs.declared.query.ItemKind.{ItemKind}
use Rattle.ebr_ast.specs.declared.query.ItemKind.TheVariants as item
use Rattle.ebr_ast.specs.declared.query.Query.{Query}
use Rattle.ebr_ast.specs.declared.query.SelectList.{SelectList}
use Rattle.ebr_ast.specs.declared.query.SelectList.TheVariants as list
use Rattle.ebr_ast.specs.declared.query.SortKey.{SortKey}
use Rattle.ebr_ast.specs.declared.sql.Assignment.{Assignment}
use Rattle.ebr_ast.specs.declared.sql.Delete.{Delete}
use Rattle.ebr_ast.specs.declared.sql.Insert.{Insert}
use Rattle.ebr_ast.specs.declared.sql.SqlTree.{SqlTree}
use Rattle.ebr_ast.specs.declared.sql.SqlTree.TheVariants as sql
use Rattle.ebr_ast.specs.declared.sql.Update.{Update}
use Rattle.ebr_ast.specs.declared.view.EditionView.{EditionView}
use Rattle.ebr_names.specs.declared.column.ViewColumn.{ViewColumn}
use Rattle.ebr_names.specs.Columns.{columns_named, column_named}
use Rattle.ebr_sqlcheck.specs.declared.value_type.ValueType.TheVariants as type
use Rattle.ebr_sqlcheck.specs.Types.{Known, alike, is_plain}
use Rattle.ebr_sqlcheck.specs.Checked.{Checked, right, both, each, on}
use Rattle.ebr_sqlcheck.specs.Sources.{Relation, as_relation, relations_of}
use Rattle.ebr_sqlcheck.specs.Targets.{targets, values_for_targets, target_type, column_type}
use Rattle.ebr_sqlcheck.specs.Names.{Others, binds_alone, names_in}
use Rattle.ebr_sqlcheck.specs.Operands.{Typed, typed, must_fit, wants}
use Rattle.ebr_sqlcheck.specs.Aggregates.{stands}

-- an operand that may not be there
abbrev pub when : (Expr → Checked) → Option Expr → Checked
when check None = right
when check (Some e) = check e

-- ---- the names

abbrev pub aggregate_names : List Relation → Others → Aggregate → Checked
aggregate_names relations others aggregate.CountRows = right
aggregate_names relations others (aggregate.Count e) = names_in relations others e
aggregate_names relations others (aggregate.Sum e) = names_in relations others e
aggregate_names relations others (aggregate.Min e) = names_in relations others e
aggregate_names relations others (aggregate.Max e) = names_in relations others e

abbrev pub kind_names : List Relation → Others → ItemKind → Checked
kind_names relations others (item.Expr e) = names_in relations others e
kind_names relations others (item.Aggregate a) = aggregate_names relations others a

abbrev pub list_names : List Relation → Others → SelectList → Checked
list_names relations others list.All = right
list_names relations others (list.Items items) = each (map (λ (i : Item). kind_names relations others i.what) items)

abbrev pub query_names : List Relation → Others → Query → Checked
query_names relations others q =
    both (list_names relations others q.list)
    (both (when (names_in relations others) q.filter)
    (each (map (λ (k : SortKey). names_in relations others k.key) q.order)))

-- ---- the types

-- BOOLEAN has no place in a list, and no order.
unfoldable pub plain : Typed → Checked
plain operand = on (λ t. must_fit (is_plain t)) operand

unfoldable pub any_type : Typed → Checked
any_type operand = on (λ t. right) operand

-- a value for a column of a type
unfoldable pub assigned : Known → Typed → Checked
assigned wanted operand = on (λ t. must_fit (alike wanted t)) operand

abbrev pub condition : List Relation → Others → Expr → Checked
condition relations others e = wants type.Boolean (typed relations others e)

abbrev pub aggregate_type : List Relation → Others → Aggregate → Checked
aggregate_type relations others aggregate.CountRows = right
aggregate_type relations others (aggregate.Count e) = any_type (typed relations others e)
aggregate_type relations others (aggregate.Sum e) = wants type.Number (typed relations others e)
aggregate_type relations others (aggregate.Min e) = plain (typed relations others e)
aggregate_type relations others (aggregate.Max e) = plain (typed relations others e)

abbrev pub kind_type : List Relation → Others → ItemKind → Checked
kind_type relations others (item.Expr e) = plain (typed relations others e)
kind_type relations others (item.Aggregate a) = aggregate_type relations others a

abbrev pub list_types : List Relation → Others → SelectList → Checked
list_types relations others list.All = right
list_types relations others (list.Items items) = each (map (λ (i : Item). kind_type relations others i.what) items)

abbrev pub query_types : List Relation → Others → Query → Checked
query_types relations others q =
    both (list_types relations others q.list)
    (both (when (condition relations others) q.filter)
    (each (map (λ (k : SortKey). plain (typed relations others k.key)) q.order)))

-- the values of an INSERT from a place on, each for its column; no source has a column there
abbrev pub values_from : List ViewColumn → List (List ℕ) → Others → ℕ → List Expr → Checked
values_from columns names others at [] = right
values_from columns names others at (e ∷ rest) = both (assigned (target_type columns names at) (typed [] others e)) (values_from columns names others (suc at) rest)

abbrev pub set_type : List ViewColumn → List Relation → Others → Assignment → Checked
set_type columns relations others a = assigned (column_type (column_named a.column columns)) (typed relations others a.value)

-- ---- the statements

abbrev pub query_over : Others → Query → List Relation → Checked
query_over others q relations = both (query_names relations others q) (both (query_types relations others q) (stands q))

abbrev pub query_check : EditionView → Others → Query → Checked
query_check v others q = on (query_over others q) (relations_of v q.sources)

-- the table or view of an INSERT is no source of columns
abbrev pub insert_over : Others → Insert → List ViewColumn → Checked
insert_over others i columns =
    both (targets columns i.columns)
    (both (values_for_targets columns i.columns (length i.values))
    (both (each (map (names_in [] others) i.values)) (values_from columns i.columns others 0 i.values)))

abbrev pub insert_check : EditionView → Others → Insert → Checked
insert_check v others i = on (insert_over others i) (columns_named v i.table)

abbrev pub set_column : Assignment → List ℕ
set_column a = a.column

unfoldable pub update_names : Others → Update → List Relation → Checked
update_names others u relations =
    both (each (map (λ (a : Assignment). names_in relations others a.value) u.sets)) (when (names_in relations others) u.filter)

unfoldable pub update_types : Others → Update → List ViewColumn → List Relation → Checked
update_types others u columns relations =
    both (each (map (set_type columns relations others) u.sets)) (when (condition relations others) u.filter)

unfoldable pub update_over : Others → Update → List ViewColumn → List Relation → Checked
update_over others u columns relations =
    both (targets columns (map set_column u.sets)) (both (update_names others u relations) (update_types others u columns relations))

-- the table or view of an UPDATE or a DELETE, its one source
abbrev pub only_relation : EditionView → List ℕ → Option (List ℕ) → Result Relation Code
only_relation v table alias = on (λ columns. Ok (as_relation (unwrap_or alias table) columns)) (columns_named v table)

abbrev pub update_check : EditionView → Others → Update → Checked
update_check v others u = on (λ (r : Relation). update_over others u r.columns (r ∷ [])) (only_relation v u.table u.alias)

unfoldable pub delete_over : Others → Delete → List Relation → Checked
delete_over others d relations = both (when (names_in relations others) d.filter) (when (condition relations others) d.filter)

abbrev pub delete_check : EditionView → Others → Delete → Checked
delete_check v others d = on (λ (r : Relation). delete_over others d (r ∷ [])) (only_relation v d.table d.alias)

-- What a statement is found to be, where names that are no columns are `others`. APPLY TRIGGER has nothing to check here.
abbrev pub checked : EditionView → Others → SqlTree → Checked
checked v others (sql.Query q) = query_check v others q
checked v others (sql.Insert i) = insert_check v others i
checked v others (sql.Update u) = update_check v others u
checked v others (sql.Delete d) = delete_check v others d
checked v others (sql.Apply name) = right

-- a statement of a session
abbrev pub checked_with : EditionView → List Value → SqlTree → Checked
checked_with v binds s = checked v (binds_alone binds) s
