-- The columns of a query: the fields of a record that takes its rows.
-- Oracle Database PL/SQL Language Reference 19c, Cursor FOR LOOP Statement. That an item without an alias that is no column
-- has no name is own.
use Rattle.std.specs.Prelude.{List, map, flat_map, Option, Some, None, Result, Ok, Err}
use Rattle.std.specs.Option.{option_or}
use Rattle.ebr_base.specs.declared.code.Code.{Code}
use Rattle.ebr_exprtree.specs.declared.expression.Expr.{Expr, out-Expr}
use Rattle.ebr_exprtree.specs.declared.expression.Addend.{Addend}
use Rattle.ebr_exprtree.specs.declared.expression.Expr.TheOpen.{Expr-F}
use Rattle.ebr_exprtree.specs.declared.expression.Expr.TheOpen as expr
use Rattle.ebr_ast.specs.declared.query.Aggregate.{Aggregate}
use Rattle.ebr_ast.specs.declared.query.Aggregate.TheVariants as aggregate
use Rattle.ebr_ast.specs.declared.query.Item.{Item}
use Rattle.ebr_ast.specs.declared.query.ItemKind.{ItemKind}
use Rattle.ebr_ast.specs.declared.query.ItemKind.TheVariants as item
use Rattle.ebr_ast.specs.declared.query.Query.{Query}
use Rattle.ebr_ast.specs.declared.query.SelectList.{SelectList}
use Rattle.ebr_ast.specs.declared.query.SelectList.TheVariants as list
use Rattle.ebr_names.specs.declared.column.ViewColumn.{ViewColumn}
use Rattle.ebr_sqlcheck.specs.declared.relation.Meant.{Meant}
use Rattle.ebr_sqlcheck.specs.declared.relation.Meant.TheVariants as of_sources
use Rattle.ebr_sqlcheck.specs.declared.value_type.ValueType.TheVariants as type
use Rattle.ebr_sqlcheck.specs.Types.{Known, type_of_column}
use Rattle.ebr_sqlcheck.specs.Sources.{Relation, relations_of}
use Rattle.ebr_sqlcheck.specs.Names.{column_meant}
use Rattle.ebr_sqlcheck.specs.Operands.{Typed, typed}
use Rattle.ebr_scope.specs.declared.field.Field.{Field}
use Rattle.ebr_scope.specs.Meanings.{Word, Fields}
use Rattle.ebr_scope.specs.Around.{Env, others}

-- the type of an item, as far as it is known
abbrev pub type_or_none : Typed → Known
type_or_none (Ok t) = t
type_or_none (Err code) = None

abbrev pub item_type : List Relation → Env → Expr → Known
item_type relations env e = type_or_none (typed relations (others env) e)

abbrev pub aggregate_type : List Relation → Env → Aggregate → Known
aggregate_type relations env aggregate.CountRows = Some type.Number
aggregate_type relations env (aggregate.Count e) = Some type.Number
aggregate_type relations env (aggregate.Sum e) = Some type.Number
aggregate_type relations env (aggregate.Min e) = item_type relations env e
aggregate_type relations env (aggregate.Max e) = item_type relations env e

abbrev pub kind_type : List Relation → Env → ItemKind → Known
kind_type relations env (item.Expr e) = item_type relations env e
kind_type relations env (item.Aggregate a) = aggregate_type relations env a

-- `n` and `s.n` have the name n where they are columns
abbrev pub column_part : Word → Option Word → Word
column_part n None = n
column_part n (Some m) = m

abbrev pub if_column : Meant → Word → Option Word
if_column of_sources.Nothing n = None
if_column (of_sources.Column t) n = Some n
if_column of_sources.Several n = Some n

abbrev pub form_name : List Relation → Expr-F Expr Addend → Option Word
form_name relations (expr.Name path) = if_column (column_meant relations path) (column_part path.name path.member)
form_name relations e = None

abbrev pub kind_name : List Relation → ItemKind → Option Word
kind_name relations (item.Expr e) = form_name relations (out-Expr e)
kind_name relations (item.Aggregate a) = None

-- an item under its alias, or else the name of its column
abbrev pub item_field : List Relation → Env → Item → Field
item_field relations env i = record { name = option_or i.alias (kind_name relations i.what); ty = kind_type relations env i.what }

abbrev pub column_field : ViewColumn → Field
column_field c = record { name = Some c.name; ty = Some (type_of_column c.ty) }

abbrev pub relation_fields : Relation → List Field
relation_fields r = map column_field r.columns

abbrev pub list_fields : List Relation → Env → SelectList → List Field
list_fields relations env list.All = flat_map relation_fields relations
list_fields relations env (list.Items items) = map (item_field relations env) items

abbrev pub fields_over : Env → SelectList → Result (List Relation) Code → Fields
fields_over env list (Ok relations) = Some (list_fields relations env list)
fields_over env list (Err code) = None

-- What a query gives: none where a source has no columns.
unfoldable pub fields_of : Env → Query → Fields
fields_of env q = fields_over env q.list (relations_of env.view q.sources)
