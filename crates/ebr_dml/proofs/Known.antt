-- The table of a plan is one of those that the edition sees.
use Rattle.std.proofs.Common.{ℕ, Bool, true, false, cond, List, [], ◌∷◌, Option, Some, None, Result, Ok, Err, map}
use Rattle.std.specs.Prelude.{All, IfOk, IfSome}
use Rattle.std.specs.List.{AllByRecursion}
use Rattle.std.specs.Str.{bytes_eq}
use Rattle.std.proofs.lemmas.List.Elements.{recursion_from_All}
use Rattle.ebr_base.specs.declared.code.Code.{Code}
use Rattle.ebr_base.specs.declared.table.TableDef.{TableDef}
use Rattle.ebr_base.specs.Keys.{table_named}
use Rattle.ebr_exprtree.specs.declared.expression.Expr.{Expr}
use Rattle.ebr_ast.specs.declared.sql.SqlTree.{SqlTree}
use Rattle.ebr_ast.specs.declared.sql.SqlTree.TheVariants as sql
use Rattle.ebr_ast.specs.declared.unit.UnitTree.{UnitTree}
use Rattle.ebr_ast.specs.declared.unit.UnitTree.TheVariants as unit
use Rattle.ebr_ast.specs.declared.view.EditionView.{EditionView}
use Rattle.ebr_ast.specs.declared.view.Object.{Object}
use Rattle.ebr_ast.specs.Views.{unit_named, object_of}
use Rattle.ebr_names.specs.Columns.{columns_named}
use Rattle.ebr_query.specs.Results.{all}
use Rattle.ebr_query.specs.Seen.{table_of, table_behind, base_of}
use Rattle.ebr_sqlcheck.specs.Checked.{on}
use Rattle.ebr_sqlcheck.specs.Sources.{Relation}
use Rattle.ebr_sqlcheck.specs.Statements.{only_relation}
use Rattle.ebr_dml.specs.declared.plan.Work.{Work}
use Rattle.ebr_dml.specs.Plans.{there, over, insert_places, set_of, trigger_key, tree_table, object_table, trigger_table, plan_of}

-- what holds of all that f gives holds of what it gives next
on-gives : {A B : Type 0} (Q : B → Type 0) (f : A → Result B Code) (r : Result A Code) → ((a : A) → IfOk (f a) Q) → IfOk (on f r) Q
on-gives Q f (Ok a) h = h a
on-gives Q f (Err code) h = tt

on-of : {A B : Type 0} (P : A → Type 0) (Q : B → Type 0) (f : A → Result B Code) (r : Result A Code) → IfOk r P → ((a : A) → P a → IfOk (f a) Q) → IfOk (on f r) Q
on-of P Q f (Ok a) p h = h a p
on-of P Q f (Err code) p h = tt

module _ (P : TableDef → Type 0) (v : EditionView) (each : All P v.tables) where
  found : (name : List ℕ) (tables : List TableDef) → AllByRecursion P tables → IfSome (table_named name tables) P
  found name [] h = tt
  found name (x ∷ xs) h = by (bytes_eq name x.name) (found name xs h.1)
    where
      by : (b : Bool) → IfSome (table_named name xs) P → IfSome (cond b (Some x) (table_named name xs)) P
      by true k = h.0
      by false k = k

  named : (name : List ℕ) → IfSome (table_named name v.tables) P
  named name = found name v.tables (recursion_from_All P v.tables each)

  base : (tree : UnitTree) → IfSome (base_of v.tables tree) P
  base (unit.View view) = named view.table
  base (unit.Subprogram s) = tt
  base (unit.Package n items) = tt
  base (unit.PackageBody b) = tt
  base (unit.Trigger t) = tt
  base (unit.Block b) = tt

  behind : (o : Option Object) (def : Option TableDef) → IfSome def P → IfSome (table_behind v.tables o def) P
  behind (Some o) def h = base o.tree
  behind None def h = h

  of-name : (name : List ℕ) → IfSome (table_of v name) P
  of-name name = behind (unit_named name v.objects) (table_named name v.tables) (named name)

  there-is : (code : Code) (o : Option TableDef) → IfSome o P → IfOk (there code o) P
  there-is code None h = tt
  there-is code (Some def) h = h

  over-known : (name : List ℕ) (source : List ℕ) (filter : Option Expr) (work : Work) → IfOk (over v name source filter work) (λ p. P p.table)
  over-known name source filter work = on-of P (λ p. P p.table) _ (there _ (table_of v name)) (there-is _ (table_of v name) (of-name name)) (λ def h. h)

  tree-known : (tree : UnitTree) → IfOk (tree_table v.tables tree) P
  tree-known (unit.Trigger t) = there-is _ (table_named t.on v.tables) (named t.on)
  tree-known (unit.View view) = tt
  tree-known (unit.Subprogram s) = tt
  tree-known (unit.Package n items) = tt
  tree-known (unit.PackageBody b) = tt
  tree-known (unit.Block b) = tt

  object-known : (o : Option Object) → IfOk (object_table v.tables o) P
  object-known None = tt
  object-known (Some o) = tree-known o.tree

  pub plan-known : (s : SqlTree) → IfOk (plan_of v s) (λ p. P p.table)
  plan-known (sql.Query q) = tt
  plan-known (sql.Insert i) =
      on-gives (λ p. P p.table) _ (columns_named v i.table) (λ columns.
      on-gives (λ p. P p.table) _ (insert_places columns i.columns) (λ places. over-known i.table _ _ _))
  plan-known (sql.Update u) =
      on-gives (λ p. P p.table) _ (only_relation v u.table u.alias) (λ (r : Relation).
      on-gives (λ p. P p.table) _ (all (map (set_of r) u.sets)) (λ sets. over-known u.table _ _ _))
  plan-known (sql.Delete x) =
      on-gives (λ p. P p.table) _ (only_relation v x.table x.alias) (λ (r : Relation). over-known x.table _ _ _)
  plan-known (sql.Apply name) =
      on-of P (λ p. P p.table) _ (trigger_table v name) (object-known (object_of (trigger_key name) v.objects)) (λ def h. h)
