-- Statements of SQL in code: each name that is no column becomes a bind, numbered in reading order, and so do `:NEW.c` and
-- `:OLD.c`.
-- Oracle Database PL/SQL Language Reference 19c, Static SQL, and Name Resolution in Static SQL Statements: a column wins over
-- a variable.
use Rattle.std.specs.Prelude.{ℕ, ◌+◌, List, [], ◌∷◌, ◌++◌, map, length, Option, Some, None, Result, Ok, Err}
use Rattle.ebr_base.specs.declared.code.Code.{Code}
use Rattle.ebr_exprtree.specs.declared.expression.Path.{Path}
use Rattle.ebr_exprtree.specs.declared.expression.RowImage.{RowImage}
use Rattle.ebr_exprtree.specs.declared.expression.RowImage.TheVariants as image
use Rattle.ebr_exprtree.specs.declared.expression.Expr.{Expr}
use Rattle.ebr_exprtree.specs.declared.expression.Expr as made
use Rattle.ebr_exprtree.specs.declared.expression.Addend.{Addend}
use Rattle.ebr_exprtree.specs.declared.expression.Expr.TheOpen.{Expr-F, Addend-F}
use Rattle.ebr_exprtree.specs.declared.expression.Expr.TheOpen as expr
use Rattle.ebr_exprtree.specs.declared.expression.Expr.TheFolds.{fold-Expr, fold-Addend}
use Rattle.ebr_exprtree.specs.declared.expression.Expr.TheViews.{roll-Addend}
use Rattle.ebr_ast.specs.declared.query.Aggregate.{Aggregate}
use Rattle.ebr_ast.specs.declared.query.Aggregate.TheVariants as aggregate
use Rattle.ebr_ast.specs.declared.query.Item.{Item}
use Rattle.ebr_ast.specs.declared.query.ItemKind.{ItemKind}
use Rattle.ebr_ast.specs.declared.query.ItemKind.TheVariants as item
use Rattle.ebr_ast.specs.declared.query.Query.{Query}
use Rattle.ebr_ast.specs.declared.query.SelectList.{SelectList}
use Rattle.ebr_ast.specs.declared.query.SelectList.TheVariants as list
use Rattle.ebr_ast.specs.declared.query.SortKey.{SortKey}
use Rattle.ebr_ast.specs.declared.sql.Assignment.{Assignment}
use Rattle.ebr_ast.specs.declared.sql.Delete.{Delete}
use Rattle.ebr_ast.specs.declared.sql.Insert.{Insert}
use Rattle.ebr_ast.specs.declared.sql.Update.{Update}
use Rattle.ebr_sqlcheck.specs.declared.relation.Meant.{Meant}
use Rattle.ebr_sqlcheck.specs.declared.relation.Meant.TheVariants as of_sources
use Rattle.ebr_sqlcheck.specs.Sources.{Relation, relations_of}
use Rattle.ebr_sqlcheck.specs.Names.{column_meant}
use Rattle.ebr_sqlcheck.specs.Statements.{only_relation}
use Rattle.ebr_scope.specs.Meanings.{Word}
use Rattle.ebr_run.specs.declared.place.Bind.{Bind}
use Rattle.ebr_run.specs.declared.place.Bind.TheVariants as bind
use Rattle.ebr_run.specs.Scope.{Env, Denoted, Variable, Bound, meant, column_place}

-- something of a statement, by how many binds stand before it
abbrev pub Binding : Type 0 → Type 0
Binding A = ℕ → Bound A

abbrev pub unbound : {A : Type 0} → A → Bound A
unbound a = record { tree = a; binds = [] }

module _ {A B : Type 0} where
  abbrev pub bind_one : (A → B) → Binding A → Binding B
  bind_one f a n = record { tree = f (a n).tree; binds = (a n).binds }

module _ {A B C : Type 0} where
  -- one part, and another behind it
  abbrev pub bind_two : (A → B → C) → Binding A → Binding B → Binding C
  bind_two f a b n =
      let x = a n in
      let y = b (n + length x.binds) in
      record { tree = f x.tree y.tree; binds = x.binds ++ y.binds }

abbrev pub bind_all : {A : Type 0} → List (Binding A) → Binding (List A)
bind_all [] n = unbound []
bind_all (a ∷ rest) n = bind_two (λ x xs. x ∷ xs) a (bind_all rest) n

-- a bind in place of what gives it its value
abbrev pub as_bind : Bind → Binding Expr
as_bind b n = record { tree = made.Bind n; binds = b ∷ [] }

abbrev pub bind_variable : Path → Option Denoted → Binding Expr
bind_variable path (Some (Variable l t)) n = as_bind (bind.Variable l) n
bind_variable path d n = unbound (made.Name path)

abbrev pub bind_name : Env → Path → Meant → Binding Expr
bind_name env path of_sources.Nothing n = bind_variable path (meant env path) n
bind_name env path (of_sources.Column t) n = unbound (made.Name path)
bind_name env path of_sources.Several n = unbound (made.Name path)

abbrev pub image_bind : RowImage → ℕ → Bind
image_bind image.New k = bind.New k
image_bind image.Old k = bind.Old k

abbrev pub bind_image : RowImage → Word → Option ℕ → Binding Expr
bind_image i c (Some k) n = as_bind (image_bind i k) n
bind_image i c None n = unbound (made.Row i c)

-- An expression among the sources of its statement.
abbrev pub bind_form : List Relation → Env → Expr-F (Binding Expr) (Binding Addend) → Binding Expr
bind_form relations env (expr.Name path) n = bind_name env path (column_meant relations path) n
bind_form relations env (expr.Row i c) n = bind_image i c (column_place env c) n
bind_form relations env (expr.Call path operands) n = bind_one (made.Call path) (bind_all operands) n
bind_form relations env (expr.Quotient a b) n = bind_two made.Quotient a b n
bind_form relations env (expr.Plus a) n = bind_one made.Plus a n
bind_form relations env (expr.Minus a) n = bind_one made.Minus a n
bind_form relations env (expr.Product a more) n = bind_two made.Product a (bind_all more) n
bind_form relations env (expr.Sum a more) n = bind_two made.Sum a (bind_all more) n
bind_form relations env (expr.Compare c a b) n = bind_two (made.Compare c) a b n
bind_form relations env (expr.IsNull a negated) n = bind_one (λ x. made.IsNull x negated) a n
bind_form relations env (expr.Between x a b negated) n =
    bind_two (λ y (bounds : Expr × Expr). made.Between y bounds.0 bounds.1 negated) x (bind_two (λ y z. (y, z)) a b) n
bind_form relations env (expr.In x items negated) n = bind_two (λ y ys. made.In y ys negated) x (bind_all items) n
bind_form relations env (expr.Like a b negated) n = bind_two (λ x y. made.Like x y negated) a b n
bind_form relations env (expr.Not a) n = bind_one made.Not a n
bind_form relations env (expr.And a more) n = bind_two made.And a (bind_all more) n
bind_form relations env (expr.Or a more) n = bind_two made.Or a (bind_all more) n
bind_form relations env (expr.Number k) n = unbound (made.Number k)
bind_form relations env (expr.Text t) n = unbound (made.Text t)
bind_form relations env expr.Null n = unbound made.Null
bind_form relations env (expr.Boolean b) n = unbound (made.Boolean b)
bind_form relations env expr.SqlCode n = unbound made.SqlCode
bind_form relations env (expr.Firing event) n = unbound (made.Firing event)
bind_form relations env (expr.Attribute c a) n = unbound (made.Attribute c a)
bind_form relations env (expr.Place k) n = unbound (made.Place k)
bind_form relations env (expr.Bind k) n = unbound (made.Bind k)

abbrev pub bind_term : Addend-F (Binding Expr) (Binding Addend) → Binding Addend
bind_term t n = bind_one (λ x. roll-Addend (record { operator = t.operator; term = x })) t.term n

unfoldable pub bound_expr : List Relation → Env → Expr → Binding Expr
bound_expr relations env = fold-Expr (Binding Expr) (Binding Addend) (bind_form relations env) bind_term

unfoldable pub bound_term : List Relation → Env → Addend → Binding Addend
bound_term relations env = fold-Addend (Binding Expr) (Binding Addend) (bind_form relations env) bind_term

-- ---- statements

abbrev pub InSources : Type 0 → Type 0
InSources A = List Relation → Env → Binding A

abbrev pub bound_maybe : Option Expr → InSources (Option Expr)
bound_maybe None relations env n = unbound None
bound_maybe (Some e) relations env n = bind_one Some (bound_expr relations env e) n

abbrev pub bound_aggregate : Aggregate → InSources Aggregate
bound_aggregate aggregate.CountRows relations env n = unbound aggregate.CountRows
bound_aggregate (aggregate.Count e) relations env n = bind_one aggregate.Count (bound_expr relations env e) n
bound_aggregate (aggregate.Sum e) relations env n = bind_one aggregate.Sum (bound_expr relations env e) n
bound_aggregate (aggregate.Min e) relations env n = bind_one aggregate.Min (bound_expr relations env e) n
bound_aggregate (aggregate.Max e) relations env n = bind_one aggregate.Max (bound_expr relations env e) n

abbrev pub bound_kind : ItemKind → InSources ItemKind
bound_kind (item.Expr e) relations env n = bind_one item.Expr (bound_expr relations env e) n
bound_kind (item.Aggregate a) relations env n = bind_one item.Aggregate (bound_aggregate a relations env) n

abbrev pub bound_item : List Relation → Env → Item → Binding Item
bound_item relations env i n = bind_one (λ kind. record { what = kind; alias = i.alias }) (bound_kind i.what relations env) n

abbrev pub bound_list : SelectList → InSources SelectList
bound_list list.All relations env n = unbound list.All
bound_list (list.Items items) relations env n = bind_one list.Items (bind_all (map (bound_item relations env) items)) n

abbrev pub bound_key : List Relation → Env → SortKey → Binding SortKey
bound_key relations env k n = bind_one (λ e. record { key = e; descending = k.descending }) (bound_expr relations env k.key) n

abbrev pub bound_over : Query → InSources Query
bound_over q relations env n =
    bind_two (λ items (rest : Option Expr × List SortKey). record q { list = items; filter = rest.0; order = rest.1 })
    (bound_list q.list relations env)
    (bind_two (λ f ks. (f, ks)) (bound_maybe q.filter relations env) (bind_all (map (bound_key relations env) q.order))) n

-- a source that isn't there stands in no valid unit
abbrev pub or_none : Result (List Relation) Code → List Relation
or_none (Ok relations) = relations
or_none (Err code) = []

abbrev pub or_no_relation : Result Relation Code → List Relation
or_no_relation (Ok r) = r ∷ []
or_no_relation (Err code) = []

abbrev pub bound_query : Env → Query → Bound Query
bound_query env q = bound_over q (or_none (relations_of env.view q.sources)) env 0

-- no source has a column in the values of an INSERT
abbrev pub bound_insert : Env → Insert → Bound Insert
bound_insert env i = bind_one (λ es. record i { values = es }) (bind_all (map (bound_expr [] env) i.values)) 0

abbrev pub bound_set : List Relation → Env → Assignment → Binding Assignment
bound_set relations env a n = bind_one (λ e. record { column = a.column; value = e }) (bound_expr relations env a.value) n

abbrev pub bound_update : Env → Update → Bound Update
bound_update env u =
    let relations = or_no_relation (only_relation env.view u.table u.alias) in
    bind_two (λ sets f. record u { sets = sets; filter = f }) (bind_all (map (bound_set relations env) u.sets)) (bound_maybe u.filter relations env) 0

abbrev pub bound_delete : Env → Delete → Bound Delete
bound_delete env d = bind_one (λ f. record d { filter = f }) (bound_maybe d.filter (or_no_relation (only_relation env.view d.table d.alias)) env) 0
