-- Rows that passed their tests can be spelled in a record.
use Rattle.std.proofs.Common.{◌≡◌, ℕ, zero, suc, ◌+◌, ◌<◌, Bool, true, false, cond, List, [], ◌∷◌, Option, Some, None, Ok, Err, length, map, refl, sym, ap, subst, ◌∙◌, arith}
use Rattle.std.specs.Prelude.{◌^◌, Result, All, find, slice_set, unwrap_or}
use Rattle.std.specs.Option.{option_or}
use Rattle.std.proofs.lemmas.List.{length-set}
use Rattle.std.proofs.lemmas.Option.{slice_get-get_or, same_Some}
use Rattle.ebr_base.specs.declared.code.Code.{Code}
use Rattle.ebr_base.specs.declared.code.Code.TheVariants.{Ora}
use Rattle.ebr_base.specs.declared.numbers.RowNo.{RowNo}
use Rattle.ebr_base.specs.declared.row.Change.{Change}
use Rattle.ebr_base.specs.declared.row.TxId.{TxId}
use Rattle.ebr_base.specs.declared.table.Column.{Column}
use Rattle.ebr_base.specs.declared.table.TableDef.{TableDef}
use Rattle.ebr_base.specs.declared.value.ColType.{ColType}
use Rattle.ebr_base.specs.declared.value.ColType.TheVariants as column
use Rattle.ebr_base.specs.declared.value.Value.{Value}
use Rattle.ebr_base.specs.declared.value.Value.TheVariants as value
use Rattle.ebr_base.specs.Keys.{table_named}
use Rattle.ebr_ast.specs.declared.sql.SqlTree.{SqlTree}
use Rattle.ebr_ast.specs.declared.sql.SqlTree.TheVariants as sql
use Rattle.ebr_ast.specs.declared.unit.UnitTree.{UnitTree}
use Rattle.ebr_ast.specs.declared.unit.UnitTree.TheVariants as unit
use Rattle.ebr_ast.specs.declared.view.EditionView.{EditionView}
use Rattle.ebr_ast.specs.declared.view.Object.{Object}
use Rattle.ebr_ast.specs.Views.{unit_named, object_of}
use Rattle.ebr_expr.specs.Evaluation.{Eval}
use Rattle.ebr_exprtree.specs.declared.expression.Expr.{Expr}
use Rattle.ebr_value.specs.declared.form.Place.TheVariants.{Sql}
use Rattle.ebr_value.specs.Forms.{fits}
use Rattle.ebr_value.specs.Outcomes.{Outcome}
use Rattle.ebr_versions.specs.Keys.{row_in, value_at}
use Rattle.ebr_sqlcheck.specs.Checked.{on}
use Rattle.ebr_tx.specs.Data.{Data}
use Rattle.ebr_tx.specs.Conflicts.{touch_refusal}
use Rattle.ebr_tx.specs.Calls.{unless_refused, after_change, insertion}
use Rattle.ebr_names.specs.Columns.{columns_named}
use Rattle.ebr_sqlcheck.specs.Statements.{only_relation}
use Rattle.ebr_query.specs.Results.{all as all_of}
use Rattle.ebr_query.specs.Seen.{base_of, table_behind, table_of}
use Rattle.ebr_record.specs.Payload.{IsStored, AreValues}
use Rattle.ebr_dml.specs.declared.plan.Plan.{Plan}
use Rattle.ebr_dml.specs.declared.plan.Setting.{Setting}
use Rattle.ebr_dml.specs.declared.plan.Work.{Work}
use Rattle.ebr_dml.specs.declared.plan.Work.TheVariants.{Set, Remove}
use Rattle.ebr_dml.specs.declared.taken.Taken.{Taken}
use Rattle.ebr_dml.specs.Images.{filled_from, old_values, set_values, worked, new_values}
use Rattle.ebr_dml.specs.Plans.{there, over, set_of, insert_places, update_over, delete_over, trigger_key, tree_table, object_table, trigger_table, plan_of}
use Rattle.ebr_dml.specs.Rows.{rows_of}
use Rattle.ebr_dml.specs.Steps.{DmlState, started, first_dml}
use Rattle.ebr_dml.specs.Tests.{first_code, null_refusal, column_refusal, columns_from, columns_refusal, null_inserted, null_updated, insert_tests, update_tests, delete_tests, update, removal, tested, written, written_to}
use Rattle.ebr_database.specs.Storable.{IsStorable, AllStorable}
use Rattle.ebr_database.proofs.AllStays.{with_one}
use Rattle.ebr_exec.specs.Narrow.{IsNarrow, AreNarrow}

-- ---- the tests

none_both : (a b : Option Code) → option_or a b ≡ None → (a ≡ None) × (b ≡ None)
none_both None b e = (refl, e)
none_both (Some code) b e = cc

fits_stored : (v : Value) (ty : ColType) → fits v ty Sql ≡ None → IsStored v
fits_stored value.Null ty e = tt
fits_stored (value.Num n) ty e = tt
fits_stored (value.Text t) ty e = tt
fits_stored (value.Bool b) (column.Num p) e = cc
fits_stored (value.Bool b) (column.Text c) e = cc

column_stored : (missing : Code) (c : Column) (v : Value) → column_refusal missing c v ≡ None → IsStored v
column_stored missing c v e = fits_stored v c.ty (none_both (fits v c.ty Sql) None (none_both (null_refusal missing c v) (option_or (fits v c.ty Sql) None) e).1).0

stored_from : (missing : Code) (cs : List Column) (at : ℕ) (values : List Value) → first_code (columns_from missing cs at values) ≡ None → (i : ℕ) → i < length cs → IsStored (value_at values (at + i))
stored_from missing [] at values e i h = absurd (omega (arith, h))
stored_from missing (c ∷ cs) at values e zero h =
    let here : at ≡ at + 0 = omega arith in
    subst (λ n. IsStored (value_at values n)) here (column_stored missing c (value_at values at) (none_both (column_refusal missing c (value_at values at)) (first_code (columns_from missing cs (suc at) values)) e).0)
stored_from missing (c ∷ cs) at values e (suc i) h =
    let within : i < length cs = omega (arith, h) in
    let there : suc at + i ≡ at + suc i = omega arith in
    subst (λ n. IsStored (value_at values n)) there (stored_from missing cs (suc at) values (none_both (column_refusal missing c (value_at values at)) (first_code (columns_from missing cs (suc at) values)) e).1 i within)

row_stored : (missing : Code) (table : TableDef) (values : List Value) → length values ≡ length table.columns → columns_refusal missing table values ≡ None → All IsStored values
row_stored missing table values as_many e k d h =
    let within : k < length table.columns = omega (arith, h, as_many) in
    let first : 0 + k ≡ k = omega arith in
    let at_k : IsStored (value_at values k) = subst (λ n. IsStored (value_at values n)) first (stored_from missing table.columns 0 values e k within) in
    subst IsStored (ap (λ o. unwrap_or o value.Null) (slice_get-get_or values k d h)) at_k

-- ---- what is written

abbrev data_or : Data → Result Data Code → Data
data_or d (Ok x) = x
data_or d (Err code) = d

module _ (d d' : Data) (t : TxId) (all : AllStorable d) where
  passed : (tests : List (Option Code)) (c : Change) → tested d t tests c ≡ Ok d' → first_code tests ≡ None
  passed tests c e = by (first_code tests) refl e
    where
      by : (code : Option Code) → first_code tests ≡ code → unless_refused code (after_change d t c) ≡ Ok d' → first_code tests ≡ None
      by None is e = is
      by (Some code) is e = cc

  storable_by : (tests : List (Option Code)) (c : Change) → IsStorable c → tested d t tests c ≡ Ok d' → AllStorable d'
  storable_by tests c s e = by (first_code tests) e
    where
      by : (code : Option Code) → unless_refused code (after_change d t c) ≡ Ok d' → AllStorable d'
      by None e = subst AllStorable (ap (data_or d) e) (with_one d t c s all)
      by (Some code) e = cc

  pub written_storable : (p : Plan) (r : Taken) (values : List Value) → length values ≡ length p.table.columns → length p.table.columns < 2 ^ 16 → written d t p r values ≡ Ok d' → AllStorable d'
  written_storable p r values as_many narrow e = by r.row p.work e
    where
      few : length values < 2 ^ 16
      few = subst (λ n. n < 2 ^ 16) (sym as_many) narrow

      by : (row : Option RowNo) (w : Work) → written_to d t (record p { work = w }) row values ≡ Ok d' → AllStorable d'
      by None w e =
          let tests = insert_tests d t p.table values in
          let c = insertion d p.table.id values in
          let fit : All IsStored values = row_stored null_inserted p.table values as_many (none_both (columns_refusal null_inserted p.table values) _ (passed tests c e)).0 in
          let s : AreValues values = (few, fit) in
          storable_by tests c s e
      by (Some n) (Set sets) e =
          let row = row_in p.table.id n in
          let tests = update_tests d t p.table row values in
          let c = update row values in
          let fit : All IsStored values = row_stored null_updated p.table values as_many (none_both (columns_refusal null_updated p.table values) _ (none_both (touch_refusal d t row) _ (passed tests c e)).1).0 in
          let s : AreValues values = (few, fit) in
          storable_by tests c s e
      by (Some n) Remove e = storable_by (delete_tests d t (row_in p.table.id n)) (removal (row_in p.table.id n)) tt e

-- ---- as many values as columns

filled_length : (cs : List Column) (at : ℕ) (values : List Value) → length (filled_from cs at values) ≡ length cs
filled_length [] at values = refl
filled_length (c ∷ cs) at values = ap (λ n. suc n) (filled_length cs (suc at) values)

abbrev list_or : List Value → Result (List Value) Code → List Value
list_or xs (Ok x) = x
list_or xs (Err code) = xs

set_length : (seen binds : List Value) (sets : List Setting) (row new : List Value) → set_values seen binds sets row ≡ Ok new → length new ≡ length row
set_length seen binds [] row new e = sym (ap (λ (xs : List Value). length xs) (ap (list_or row) e))
set_length seen binds (s ∷ rest) row new e = by (Eval s.value seen binds) e (λ v. set_length seen binds rest (slice_set row s.place v) new)
  where
    by : (v : Outcome) → on (λ v. set_values seen binds rest (slice_set row s.place v)) v ≡ Ok new → ((v : Value) → set_values seen binds rest (slice_set row s.place v) ≡ Ok new → length new ≡ length (slice_set row s.place v)) → length new ≡ length row
    by (Ok v) e more = more v e ∙ length-set row s.place v
    by (Err code) e more = absurd cc

pub as_many_as_columns : (p : Plan) (binds : List Value) (r : Taken) (new : List Value) → new_values p binds r ≡ Ok new → length new ≡ length p.table.columns
as_many_as_columns p binds r new e = by p.work e
  where
    by : (w : Work) → worked w p binds r ≡ Ok new → length new ≡ length p.table.columns
    by (Set sets) e = set_length _ binds sets (old_values p r) new e ∙ filled_length p.table.columns 0 r.values
    by Remove e = sym (ap (λ (xs : List Value). length xs) (ap (list_or new) e)) ∙ filled_length p.table.columns 0 []

-- ---- the table of a statement

abbrev table_or : TableDef → Result TableDef Code → TableDef
table_or x (Ok y) = y
table_or x (Err code) = x

abbrev table_in : TableDef → Result Plan Code → TableDef
table_in x (Ok y) = y.table
table_in x (Err code) = x

abbrev standing_or : DmlState → Result DmlState Code → DmlState
standing_or x (Ok y) = y
standing_or x (Err code) = x

module _ {A B : Type 0} {Q : Type 0} where
  through : (f : A → Result B Code) (r : Result A Code) (b : B) → ((a : A) → r ≡ Ok a → f a ≡ Ok b → Q) → on f r ≡ Ok b → Q
  through f (Ok a) b h e = h a refl e
  through f (Err code) b h e = absurd cc

found : (p : TableDef → Bool) (xs : List TableDef) (x : TableDef) → AreNarrow xs → find p xs ≡ Some x → IsNarrow x
found p [] x all e = cc
found p (y ∷ ys) x all e = by (p y) e (found p ys x all.1)
  where
    by : (b : Bool) → cond b (Some y) (find p ys) ≡ Some x → (find p ys ≡ Some x → IsNarrow x) → IsNarrow x
    by true e rest = subst IsNarrow (same_Some y x e) all.0
    by false e rest = rest e

module _ (tables : List TableDef) (all : AreNarrow tables) where
  named_narrow : (name : List ℕ) (table : TableDef) → table_named name tables ≡ Some table → IsNarrow table
  named_narrow name table e = found _ tables table all e

  base_narrow : (tree : UnitTree) (table : TableDef) → base_of tables tree ≡ Some table → IsNarrow table
  base_narrow (unit.View view) table e = named_narrow view.table table e
  base_narrow tree table e = cc

  behind_narrow : (o : Option Object) (def : Option TableDef) (table : TableDef) → (def ≡ Some table → IsNarrow table) → table_behind tables o def ≡ Some table → IsNarrow table
  behind_narrow (Some o) def table h e = base_narrow o.tree table e
  behind_narrow None def table h e = h e

  there_narrow : (code : Code) (o : Option TableDef) (table : TableDef) → (o ≡ Some table → IsNarrow table) → there code o ≡ Ok table → IsNarrow table
  there_narrow code None table h e = absurd cc
  there_narrow code (Some x) table h e = h (ap (λ y. Some y) (ap (table_or x) e))

  tree_narrow : (tree : UnitTree) (table : TableDef) → tree_table tables tree ≡ Ok table → IsNarrow table
  tree_narrow (unit.Trigger trigger) table e = there_narrow (Ora 4098) (table_named trigger.on tables) table (named_narrow trigger.on table) e
  tree_narrow tree table e = absurd cc

  object_narrow : (o : Option Object) (table : TableDef) → object_table tables o ≡ Ok table → IsNarrow table
  object_narrow (Some o) table e = tree_narrow o.tree table e
  object_narrow None table e = absurd cc

module _ (v : EditionView) (all : AreNarrow v.tables) (p : Plan) where
  over_narrow : (name source : List ℕ) (filter : Option Expr) (work : Work) → over v name source filter work ≡ Ok p → IsNarrow p.table
  over_narrow name source filter work e =
      through (λ table. Ok (record { table = table; source = source; filter = filter; work = work })) (there (Ora 942) (table_of v name)) p (λ table is made.
      subst IsNarrow (ap (λ r. table_in table r) made) (there_narrow v.tables all (Ora 942) (table_of v name) table (behind_narrow v.tables all (unit_named name v.objects) (table_named name v.tables) table (named_narrow v.tables all name table)) is)) e

  pub plan_narrow : (s : SqlTree) → plan_of v s ≡ Ok p → IsNarrow p.table
  plan_narrow (sql.Query q) e = absurd cc
  plan_narrow (sql.Insert i) e = through _ (columns_named v i.table) p (λ columns is e'. through _ (insert_places columns i.columns) p (λ places is' e''. over_narrow i.table [] None _ e'') e') e
  plan_narrow (sql.Update u) e = through (update_over v u) (only_relation v u.table u.alias) p (λ r is e'. through _ (all_of (map (set_of r) u.sets)) p (λ sets is' e''. over_narrow u.table _ _ _ e'') e') e
  plan_narrow (sql.Delete d) e = through (delete_over v d) (only_relation v d.table d.alias) p (λ r is e'. over_narrow d.table _ _ _ e') e
  plan_narrow (sql.Apply name) e =
      through (λ table. Ok (record { table = table; source = []; filter = None; work = Set [] })) (trigger_table v name) p (λ table is made.
      subst IsNarrow (ap (λ r. table_in table r) made) (object_narrow v.tables all (object_of (trigger_key name) v.objects) table is)) e

pub started_narrow : (s : DmlState) (d : Data) (t : TxId) (v : EditionView) (tree : SqlTree) (binds : List Value) → AreNarrow v.tables → started d t v tree binds ≡ Ok s → IsNarrow s.plan.table
started_narrow s d t v tree binds all e =
    through (λ p. on (λ rows. Ok (first_dml t binds p rows)) (rows_of d t tree p binds)) (plan_of v tree) s (λ p is e'.
    through (λ rows. Ok (first_dml t binds p rows)) (rows_of d t tree p binds) s (λ rows is' e''. subst (λ (x : DmlState). IsNarrow x.plan.table) (ap (standing_or s) e'') (plan_narrow v all p tree is)) e') e
