-- What a statement starts with.
use Rattle.std.proofs.Common.{◌≡◌, ℕ, true, false, List, [], ◌∷◌, Option, Some, None, Result, Ok, Err, refl, map, ap}
use Rattle.std.specs.Prelude.{◌||◌, IfOk, option_map}
use Rattle.std.specs.List.{list_any}
use Rattle.std.proofs.lemmas.Bool.{eq-eqb}
use Rattle.ebr_base.specs.declared.code.Code.{Code}
use Rattle.ebr_base.specs.declared.code.Code.TheVariants.{Ora}
use Rattle.ebr_base.specs.declared.numbers.TableId.{TableId}
use Rattle.ebr_base.specs.declared.row.TxId.{TxId}
use Rattle.ebr_base.specs.declared.table.TableDef.{TableDef}
use Rattle.ebr_base.specs.declared.value.Value.{Value}
use Rattle.ebr_exprtree.specs.declared.expression.Expr.{Expr}
use Rattle.ebr_ast.specs.declared.sql.SqlTree.{SqlTree}
use Rattle.ebr_ast.specs.declared.sql.SqlTree.TheVariants as sql
use Rattle.ebr_ast.specs.declared.view.EditionView.{EditionView}
use Rattle.ebr_names.specs.Columns.{columns_named}
use Rattle.ebr_sqlcheck.specs.Checked.{on}
use Rattle.ebr_sqlcheck.specs.Sources.{Relation}
use Rattle.ebr_sqlcheck.specs.Statements.{only_relation}
use Rattle.ebr_query.specs.Places.{placed}
use Rattle.ebr_query.specs.Results.{all}
use Rattle.ebr_query.specs.Seen.{table_of}
use Rattle.ebr_tx.specs.Data.{Data}
use Rattle.ebr_dml.specs.declared.plan.Plan.{Plan}
use Rattle.ebr_dml.specs.declared.plan.Work.{Work}
use Rattle.ebr_dml.specs.declared.plan.Work.TheVariants.{Set, Remove}
use Rattle.ebr_dml.specs.Plans.{there, over, insert_places, places_of, set_of, settings, trigger_table, plan_of}
use Rattle.ebr_dml.specs.Rows.{rows_of}
use Rattle.ebr_dml.specs.Steps.{DmlState, started}
use Rattle.ebr_exec.specs.Places.{id_of, is_table, named_table, one}
use Rattle.ebr_bodies.specs.Statements.{tables_of, written_by}

-- what holds of all that f gives holds of what it gives next
gives : {A B : Type 0} (Q : B → Type 0) (f : A → Result B Code) (r : Result A Code) → ((a : A) → IfOk (f a) Q) → IfOk (on f r) Q
gives Q f (Ok a) h = h a
gives Q f (Err code) h = tt

gives_of : {A B : Type 0} (P : A → Type 0) (Q : B → Type 0) (f : A → Result B Code) (r : Result A Code) → IfOk r P → ((a : A) → P a → IfOk (f a) Q) → IfOk (on f r) Q
gives_of P Q f (Ok a) p h = h a p
gives_of P Q f (Err code) p h = tt

abbrev IsIn : List TableId → Plan → Type 0
IsIn tables p = list_any (is_table p.table.id) tables ≡ true

own_table : (t : TableId) → list_any (is_table t) (t ∷ []) ≡ true
own_table t = ap (λ b. b || false) (eq-eqb t.0 t.0 refl)

module _ (v : EditionView) where
  over_in : (name source : List ℕ) (filter : Option Expr) (work : Work) → IfOk (over v name source filter work) (IsIn (one (named_table v name)))
  over_in name source filter work = by (table_of v name)
    where
      by : (o : Option TableDef) → IfOk (on (λ table. Ok (record { table = table; source = source; filter = filter; work = work })) (there (Ora 942) o)) (IsIn (one (option_map id_of o)))
      by None = tt
      by (Some def) = own_table def.id

  plan_in : (s : SqlTree) → IfOk (plan_of v s) (IsIn (tables_of v s))
  plan_in (sql.Query q) = tt
  plan_in (sql.Insert i) =
      gives _ _ (columns_named v i.table) (λ columns. gives _ _ (insert_places columns i.columns) (λ places. over_in i.table [] None (Set (settings places i.values))))
  plan_in (sql.Update u) =
      gives _ _ (only_relation v u.table u.alias) (λ (r : Relation). gives _ _ (all (map (set_of r) u.sets)) (λ sets. over_in u.table (places_of r.columns) (option_map (placed (r ∷ [])) u.filter) (Set sets)))
  plan_in (sql.Delete x) = gives _ _ (only_relation v x.table x.alias) (λ (r : Relation). over_in x.table (places_of r.columns) (option_map (placed (r ∷ [])) x.filter) Remove)
  plan_in (sql.Apply name) = by (trigger_table v name)
    where
      by : (r : Result TableDef Code) → IfOk (on (λ table. Ok (record { table = table; source = []; filter = None; work = Set [] })) r) (IsIn (written_by r))
      by (Ok def) = own_table def.id
      by (Err code) = tt

  -- Its table is one of those of the statement, and no row was given to its triggers yet.
  pub record Begins (t : TxId) (s : SqlTree) (st : DmlState) : Type 0 where
    pub table : list_any (is_table st.plan.table.id) (tables_of v s) ≡ true
    pub tx : st.tx ≡ t
    pub begun : st.begun ≡ false
    pub count : st.count ≡ 0

  pub start_in : (d : Data) (t : TxId) (s : SqlTree) (binds : List Value) → IfOk (started d t v s binds) (Begins t s)
  start_in d t s binds =
      gives_of (IsIn (tables_of v s)) (Begins t s) _ (plan_of v s) (plan_in s) (λ p h.
      gives (Begins t s) _ (rows_of d t s p binds) (λ rows. record { table = h; tx = refl; begun = refl; count = refl }))
