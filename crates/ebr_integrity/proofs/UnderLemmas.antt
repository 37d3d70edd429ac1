-- The tables under change around a statement and its bodies, and the table that it writes.
use Rattle.std.proofs.Common.{◌≡◌, ℕ, Bool, true, false, ◌||◌, List, [], ◌∷◌, ◌++◌, map, Option, Some, None, Result, Ok, Err, refl, sym, ap, ◌∙◌}
use Rattle.std.specs.Prelude.{◌&&◌, IfOk, option_map}
use Rattle.std.specs.List.{list_any}
use Rattle.std.proofs.lemmas.Bool.{and_from, both_ways, eq-eqb, eqb-true, or_from, or_left, or_right, or_parts}
use Rattle.std.proofs.lemmas.List.Folds.{list_any-append}
use Rattle.ebr_base.specs.declared.code.Code.{Code}
use Rattle.ebr_base.specs.declared.code.Code.TheVariants.{Ora}
use Rattle.ebr_base.specs.declared.numbers.TableId.{TableId}
use Rattle.ebr_base.specs.declared.row.TxId.{TxId}
use Rattle.ebr_base.specs.declared.table.TableDef.{TableDef}
use Rattle.ebr_exprtree.specs.declared.expression.Expr.{Expr}
use Rattle.ebr_ast.specs.declared.sql.SqlTree.{SqlTree}
use Rattle.ebr_ast.specs.declared.sql.SqlTree.TheVariants as sql
use Rattle.ebr_ast.specs.declared.view.EditionView.{EditionView}
use Rattle.ebr_locks.specs.Locks.{same_tx}
use Rattle.ebr_names.specs.Columns.{columns_named}
use Rattle.ebr_sqlcheck.specs.Checked.{on}
use Rattle.ebr_sqlcheck.specs.Sources.{Relation}
use Rattle.ebr_sqlcheck.specs.Statements.{only_relation}
use Rattle.ebr_query.specs.Places.{placed}
use Rattle.ebr_query.specs.Results.{all}
use Rattle.ebr_query.specs.Seen.{table_of}
use Rattle.ebr_tx.proofs.SoundLemmas.{tx-itself}
use Rattle.ebr_dml.specs.declared.plan.Plan.{Plan}
use Rattle.ebr_dml.specs.declared.plan.Work.{Work}
use Rattle.ebr_dml.specs.declared.plan.Work.TheVariants.{Set, Remove}
use Rattle.ebr_dml.specs.Plans.{insert_places, over, places_of, plan_of, set_of, settings, there, trigger_table}
use Rattle.ebr_exec.specs.Places.{Under, id_of, is_changing, is_table, named_table, one}
use Rattle.ebr_bodies.specs.Statements.{tables_of, under, written_by}
use Rattle.ebr_integrity.specs.inside.Under.{under_by}

-- ---- the tables under change

table_same : (a b : TableId) → is_table a b ≡ true → a ≡ b
table_same a b e = let n : a.0 ≡ b.0 = eqb-true a.0 b.0 e in λ i. record { 0 = n i }

table_itself : (a : TableId) → is_table a a ≡ true
table_itself a = eq-eqb a.0 a.0 refl

module _ (t : TxId) (x : TableId) where
  abbrev changes_it : Under → Bool
  changes_it u = same_tx u.tx t && is_table u.table x

  own_change : (y : TableId) → is_table x y ≡ true → changes_it (under t y) ≡ true
  own_change y e = and_from (same_tx t t) (is_table y x) (tx-itself t) (ap (λ z. is_table z x) (sym (table_same x y e)) ∙ table_itself x)

  any_own : (tables : List TableId) → list_any (is_table x) tables ≡ true → list_any changes_it (map (under t) tables) ≡ true
  any_own [] e = e
  any_own (y ∷ ys) e = by (is_table x y) refl e (any_own ys)
    where
      by : (b : Bool) → is_table x y ≡ b → (b || list_any (is_table x) ys) ≡ true → (list_any (is_table x) ys ≡ true → list_any changes_it (map (under t) ys) ≡ true)
          → (changes_it (under t y) || list_any changes_it (map (under t) ys)) ≡ true
      by true is e rest = or_left (changes_it (under t y)) (list_any changes_it (map (under t) ys)) (own_change y is)
      by false is e rest = or_right (changes_it (under t y)) (list_any changes_it (map (under t) ys)) (rest e)

  apart_from : (tables : List TableId) (u : Under) → list_any (is_table x) tables ≡ true → is_changing t tables u ≡ false → changes_it u ≡ false
  apart_from tables u among free = by (same_tx u.tx t) (is_table u.table x) refl free
    where
      by : (a b : Bool) → is_table u.table x ≡ b → (a && list_any (is_table u.table) tables) ≡ false → (a && b) ≡ false
      by false b is free = refl
      by true false is free = refl
      by true true is free = absurd (both_ways (list_any (is_table u.table) tables) free (ap (λ y. list_any (is_table y) tables) (table_same u.table x is) ∙ among))

  -- a table of a statement that may run isn't under change around it
  pub not_around : (tables : List TableId) (changing : List Under) → list_any (is_table x) tables ≡ true → list_any (is_changing t tables) changing ≡ false → under_by changing t x ≡ false
  not_around tables [] among free = refl
  not_around tables (u ∷ us) among free =
      let parts = or_parts (is_changing t tables u) (list_any (is_changing t tables) us) free in
      or_from (changes_it u) (list_any changes_it us) (apart_from tables u among parts.0) (not_around tables us among parts.1)

  -- it is around the statement's bodies
  pub is_around : (changing : List Under) (tables : List TableId) → list_any (is_table x) tables ≡ true → under_by (changing ++ map (under t) tables) t x ≡ true
  is_around changing tables e =
      list_any-append changes_it changing (map (under t) tables) ∙ or_right (list_any changes_it changing) (list_any changes_it (map (under t) tables)) (any_own tables e)

  -- and so are those around the statement
  pub still_around : (changing : List Under) (tables : List TableId) → under_by changing t x ≡ true → under_by (changing ++ map (under t) tables) t x ≡ true
  still_around changing tables e = list_any-append changes_it changing (map (under t) tables) ∙ or_left (list_any changes_it changing) (list_any changes_it (map (under t) tables)) e

-- ---- the table that a statement writes is one of its tables

gives : {A B : Type 0} (Q : B → Type 0) (f : A → Result B Code) (r : Result A Code) → ((a : A) → IfOk (f a) Q) → IfOk (on f r) Q
gives Q f (Ok a) h = h a
gives Q f (Err code) h = tt

abbrev IsIn : List TableId → Plan → Type 0
IsIn tables p = list_any (is_table p.table.id) tables ≡ true

own_table : (t : TableId) → list_any (is_table t) (t ∷ []) ≡ true
own_table t = ap (λ b. b || false) (eq-eqb t.0 t.0 refl)

module _ (v : EditionView) where
  over_in : (name source : List ℕ) (filter : Option Expr) (work : Work) → IfOk (over v name source filter work) (IsIn (one (named_table v name)))
  over_in name source filter work = by (table_of v name)
    where
      by : (o : Option TableDef) → IfOk (on (λ table. Ok (record { table = table; source = source; filter = filter; work = work })) (there (Ora 942) o)) (IsIn (one (option_map id_of o)))
      by None = tt
      by (Some def) = own_table def.id

  pub plan_in : (s : SqlTree) → IfOk (plan_of v s) (IsIn (tables_of v s))
  plan_in (sql.Query q) = tt
  plan_in (sql.Insert i) =
      gives _ _ (columns_named v i.table) (λ columns. gives _ _ (insert_places columns i.columns) (λ places. over_in i.table [] None (Set (settings places i.values))))
  plan_in (sql.Update u) =
      gives _ _ (only_relation v u.table u.alias) (λ (r : Relation). gives _ _ (all (map (set_of r) u.sets)) (λ sets. over_in u.table (places_of r.columns) (option_map (placed (r ∷ [])) u.filter) (Set sets)))
  plan_in (sql.Delete x) = gives _ _ (only_relation v x.table x.alias) (λ (r : Relation). over_in x.table (places_of r.columns) (option_map (placed (r ∷ [])) x.filter) Remove)
  plan_in (sql.Apply name) = by (trigger_table v name)
    where
      by : (r : Result TableDef Code) → IfOk (on (λ table. Ok (record { table = table; source = []; filter = None; work = Set [] })) r) (IsIn (written_by r))
      by (Ok def) = own_table def.id
      by (Err code) = tt
