-- The places in a statement of SQL that stands in code: each name in its expressions, and what its own checks find.
-- Oracle Database PL/SQL Language Reference 19c, Static SQL, and Name Resolution in Static SQL Statements: a column wins over
-- a variable. That no function of the user's own stands there is own.
use Rattle.std.specs.Prelude.{List, [], ◌∷◌, ◌++◌, map, Option, Some, None, Result, Ok, Err}
use Rattle.ebr_base.specs.declared.code.Code.{Code}
use Rattle.ebr_exprtree.specs.declared.expression.Path.{Path}
use Rattle.ebr_exprtree.specs.declared.expression.Expr.{Expr}
use Rattle.ebr_exprtree.specs.declared.expression.Expr.TheOpen.{Expr-F, Addend-F}
use Rattle.ebr_exprtree.specs.declared.expression.Expr.TheOpen as expr
use Rattle.ebr_exprtree.specs.declared.expression.Expr.TheFolds.{fold-Expr}
use Rattle.ebr_ast.specs.declared.query.Aggregate.{Aggregate}
use Rattle.ebr_ast.specs.declared.query.Aggregate.TheVariants as aggregate
use Rattle.ebr_ast.specs.declared.query.Item.{Item}
use Rattle.ebr_ast.specs.declared.query.ItemKind.{ItemKind}
use Rattle.ebr_ast.specs.declared.query.ItemKind.TheVariants as item
use Rattle.ebr_ast.specs.declared.query.Query.{Query}
use Rattle.ebr_ast.specs.declared.query.SelectList.{SelectList}
use Rattle.ebr_ast.specs.declared.query.SelectList.TheVariants as list
use Rattle.ebr_ast.specs.declared.query.SortKey.{SortKey}
use Rattle.ebr_ast.specs.declared.sql.Assignment.{Assignment}
use Rattle.ebr_ast.specs.declared.sql.Delete.{Delete}
use Rattle.ebr_ast.specs.declared.sql.Insert.{Insert}
use Rattle.ebr_ast.specs.declared.sql.Update.{Update}
use Rattle.ebr_names.specs.declared.column.ViewColumn.{ViewColumn}
use Rattle.ebr_names.specs.Columns.{columns_named}
use Rattle.ebr_expr.specs.Operators.{builtin_at}
use Rattle.ebr_sqlcheck.specs.Checked.{Checked}
use Rattle.ebr_sqlcheck.specs.Sources.{Relation, relations_of}
use Rattle.ebr_sqlcheck.specs.Names.{column_meant}
use Rattle.ebr_sqlcheck.specs.Statements.{query_check, insert_check, update_check, delete_check, only_relation}
use Rattle.ebr_scope.specs.Around.{Env, image_type, variable_type, others}
use Rattle.ebr_scope.specs.Names.{meant}
use Rattle.ebr_validity.specs.Sites.{Site, Named, Computed, OnlyInCode, Images, Fires, Placed, Sql}

-- ---- expressions

-- the sources of the statement, and what is known around it
abbrev pub InSql : Type 0
InSql = List Relation → Env → List Site

abbrev pub none : InSql
none relations env = []

abbrev pub both : InSql → InSql → InSql
both a b relations env = a relations env ++ b relations env

abbrev pub each : List InSql → InSql
each [] relations env = []
each (a ∷ rest) relations env = a relations env ++ each rest relations env

abbrev pub name_sites : Path → InSql
name_sites path relations env = Named (column_meant relations path) (variable_type (meant env.view env.scope path)) ∷ []

abbrev pub mention : Expr-F InSql InSql → InSql
mention (expr.Name path) relations env = name_sites path relations env
mention (expr.Call path operands) relations env = Computed (builtin_at path.name path.member) ∷ each operands relations env
mention (expr.Row image c) relations env = Images env.timing (image_type env c) ∷ []
mention (expr.Firing event) relations env = OnlyInCode ∷ Fires env.timing ∷ []
mention expr.SqlCode relations env = OnlyInCode ∷ []
mention (expr.Attribute cursor what) relations env = OnlyInCode ∷ []
mention (expr.Place at) relations env = Placed ∷ []
mention (expr.Bind at) relations env = Placed ∷ []
mention (expr.Number n) relations env = []
mention (expr.Text t) relations env = []
mention expr.Null relations env = []
mention (expr.Boolean b) relations env = []
mention (expr.Quotient a b) relations env = both a b relations env
mention (expr.Plus a) relations env = a relations env
mention (expr.Minus a) relations env = a relations env
mention (expr.Product a more) relations env = both a (each more) relations env
mention (expr.Sum a more) relations env = both a (each more) relations env
mention (expr.Compare c a b) relations env = both a b relations env
mention (expr.IsNull a negated) relations env = a relations env
mention (expr.Between x a b negated) relations env = both x (both a b) relations env
mention (expr.In x list negated) relations env = both x (each list) relations env
mention (expr.Like a b negated) relations env = both a b relations env
mention (expr.Not a) relations env = a relations env
mention (expr.And a more) relations env = both a (each more) relations env
mention (expr.Or a more) relations env = both a (each more) relations env

abbrev pub mention_term : Addend-F InSql InSql → InSql
mention_term t = t.term

unfoldable pub mentions : Expr → InSql
mentions = fold-Expr InSql InSql mention mention_term

-- ---- statements

abbrev pub when : Option Expr → InSql
when None = none
when (Some e) = mentions e

abbrev pub in_aggregate : Aggregate → InSql
in_aggregate aggregate.CountRows = none
in_aggregate (aggregate.Count e) = mentions e
in_aggregate (aggregate.Sum e) = mentions e
in_aggregate (aggregate.Min e) = mentions e
in_aggregate (aggregate.Max e) = mentions e

abbrev pub in_kind : ItemKind → InSql
in_kind (item.Expr e) = mentions e
in_kind (item.Aggregate a) = in_aggregate a

abbrev pub in_item : Item → InSql
in_item i = in_kind i.what

abbrev pub in_list : SelectList → InSql
in_list list.All = none
in_list (list.Items items) = each (map in_item items)

abbrev pub in_key : SortKey → InSql
in_key k = mentions k.key

abbrev pub in_query : Query → InSql
in_query q = both (in_list q.list) (both (when q.filter) (each (map in_key q.order)))

abbrev pub in_assignment : Assignment → InSql
in_assignment a = mentions a.value

abbrev pub in_update : Update → InSql
in_update u = both (each (map in_assignment u.sets)) (when u.filter)

-- the names of a statement whose sources have columns; of another one they aren't looked at
abbrev pub over : InSql → Env → Result (List Relation) Code → List Site
over a env (Ok relations) = a relations env
over a env (Err code) = []

-- no source has a column in the values of an INSERT
abbrev pub values_over : Insert → Env → Result (List ViewColumn) Code → List Site
values_over i env (Ok columns) = each (map mentions i.values) [] env
values_over i env (Err code) = []

abbrev pub over_one : InSql → Env → Result Relation Code → List Site
over_one a env (Ok r) = a (r ∷ []) env
over_one a env (Err code) = []

-- what the checks of a statement find, with what is known around it
unfoldable pub query_found : Query → Env → Checked
query_found q env = query_check env.view (others env) q

unfoldable pub insert_found : Insert → Env → Checked
insert_found i env = insert_check env.view (others env) i

unfoldable pub update_found : Update → Env → Checked
update_found u env = update_check env.view (others env) u

unfoldable pub delete_found : Delete → Env → Checked
delete_found d env = delete_check env.view (others env) d

abbrev pub query_sites : Query → Env → List Site
query_sites q env = Sql (query_found q env) ∷ over (in_query q) env (relations_of env.view q.sources)

abbrev pub insert_sites : Insert → Env → List Site
insert_sites i env = Sql (insert_found i env) ∷ values_over i env (columns_named env.view i.table)

abbrev pub update_sites : Update → Env → List Site
update_sites u env = Sql (update_found u env) ∷ over_one (in_update u) env (only_relation env.view u.table u.alias)

abbrev pub delete_sites : Delete → Env → List Site
delete_sites d env = Sql (delete_found d env) ∷ over_one (when d.filter) env (only_relation env.view d.table d.alias)
