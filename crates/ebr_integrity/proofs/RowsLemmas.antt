-- The rows of a statement with their triggers, one after the other.
use Rattle.std.proofs.Common.{◌≡◌, ℕ, true, false, List, [], ◌∷◌, ◌++◌, Option, Some, None, Ok, Err, length, refl, ap, subst, ◌∙◌}
use Rattle.std.specs.Prelude.{IfOk, Result, find, is_some}
use Rattle.ebr_base.specs.declared.code.Code.{Code}
use Rattle.ebr_base.specs.declared.numbers.RowNo.{RowNo}
use Rattle.ebr_base.specs.declared.numbers.TableId.{TableId}
use Rattle.ebr_base.specs.declared.row.TxId.{TxId}
use Rattle.ebr_base.specs.declared.table.TableDef.{TableDef}
use Rattle.ebr_base.specs.declared.value.Value.{Value}
use Rattle.ebr_exprtree.specs.declared.op.Op.{Op}
use Rattle.ebr_versions.specs.Keys.{row_in}
use Rattle.ebr_tx.specs.Data.{Data, IsLive, own}
use Rattle.ebr_tables.specs.Tables.{has_id}
use Rattle.ebr_dml.specs.declared.taken.Taken.{Taken}
use Rattle.ebr_dml.specs.inside.Apart.{Apart, FoundApart, FromAll}
use Rattle.ebr_dml.specs.Images.{after_values, new_values, old_values}
use Rattle.ebr_dml.specs.Steps.{AreSeen, IsSeen, RestSeen}
use Rattle.ebr_dml.specs.Tests.{written}
use Rattle.ebr_dml.proofs.Going.{rest-seen}
use Rattle.ebr_database.specs.Base.{with_data}
use Rattle.ebr_database.specs.Outcome.{Outcome, gives, and_then, go_on, then_run}
use Rattle.ebr_levels.specs.Keeps.{UnderChange}
use Rattle.ebr_levels.specs.Levels.{IsTop, Leaves}
use Rattle.ebr_levels.proofs.LeavesLemmas.{keeps_sees}
use Rattle.ebr_levels.proofs.StepLemmas.{written_leaves}
use Rattle.ebr_levels.proofs.TopLemmas.{top_live, top_stays}
use Rattle.ebr_exec.specs.Over.{Over}
use Rattle.ebr_exec.proofs.Fits.{as_many_as_columns}
use Rattle.ebr_exec.proofs.Rows.{written_over}
use Rattle.ebr_bodies.specs.Ready.{Ready}
use Rattle.ebr_bodies.specs.Bodies.{Doing, Site, bodies, body}
use Rattle.ebr_bodies.specs.Rows.{Work, at_data, changed, one_row, rows, rows_of}
use Rattle.ebr_integrity.specs.Commits.{IsSuitable}
use Rattle.ebr_integrity.specs.Integrity.{IsIntact, IsIntactBy}
use Rattle.ebr_integrity.specs.inside.Under.{under_by}
use Rattle.ebr_integrity.specs.inside.Works.{WorksIn}
use Rattle.ebr_integrity.proofs.BodyLemmas.{AllWork, RunsWell, body_works}
use Rattle.ebr_integrity.proofs.WorksLemmas.{fit_behind, in_both, in_fewer, in_same, works_none}
use Rattle.ebr_integrity.proofs.WrittenLemmas.{written_intact}

abbrev nothing : Unit {0}
nothing = tt

module _ (living : List TableDef) (w : Site) (deeper : AllWork living w.deeper) where
  abbrev around : UnderChange
  around = under_by w.changing

  abbrev Runs : Doing → ℕ → Outcome Doing (Result (List Value) Code) → Type 0
  Runs σ size o = RunsWell living w deeper σ size o

  -- ---- bodies one after the other

  runs_then : (σ : Doing) (size : ℕ) (o : Outcome Doing (Result (List Value) Code)) (k : List Value → Doing → Outcome Doing (Result (List Value) Code)) → IsIntact living σ.base.data_now → IsTop σ.base.data_now w.tx → Runs σ size o
      → ((new : List Value) → length new ≡ size → IsIntact living o.state.base.data_now → IsTop o.state.base.data_now w.tx → Runs o.state size (k new o.state)) → Runs σ size (then_run o k)
  runs_then σ size o k fit top h next = record { works = all.works; long = all.long }
    where
      fit' : IsIntact living o.state.base.data_now
      fit' = fit_behind living σ.base o.state.base o.made h.works.works fit

      top' : IsTop o.state.base.data_now w.tx
      top' = top_stays σ.base.data_now o.state.base.data_now w.tx around top h.works.leaves

      by : (v : Result (List Value) Code) → IfOk v (λ new. length new ≡ size) → Runs o.state size (go_on k v o.state)
      by (Ok new) long = next new long fit' top'
      by (Err code) long = record { works = in_same living w.tx around o.state.base fit'; long = tt }

      all : Runs σ size (and_then o (go_on k))
      all =
          let more : Runs o.state size (go_on k o.value o.state) = by o.value h.long in
          record { works = in_both living w.tx around σ.base o.state.base (go_on k o.value o.state).state.base o.made (go_on k o.value o.state).made h.works more.works; long = more.long }

  pub bodies_work : (o : Op) (rs : List Ready) (old new : List Value) (σ : Doing) → IsIntact living σ.base.data_now → IsTop σ.base.data_now w.tx → Runs σ (length new) (bodies w o rs old new σ)
  bodies_work o [] old new σ fit top = record { works = in_same living w.tx around σ.base fit; long = refl }
  bodies_work o (r ∷ rest) old new σ fit top =
      runs_then σ (length new) (body w o r old new σ) (λ new' σ'. bodies w o rest old new' σ') fit top (body_works living w deeper o r old new σ fit top) (λ new' long fit' top'.
      subst (λ n. Runs (body w o r old new σ).state n (bodies w o rest old new' (body w o r old new σ).state)) long (bodies_work o rest old new' (body w o r old new σ).state fit' top'))

-- ---- the rows that are to come

module _ (a b : Data) (t : TxId) (around : UnderChange) (table : TableId) (on : around t table ≡ true) (top : IsTop a t) (begun : is_some (own a t).begun ≡ true) (l : Leaves a t around b) where
  pub still_seen : (row : Option RowNo) → IsSeen a t table row → IsSeen b t table row
  still_seen None h = tt
  still_seen (Some n) h = ap (λ (o : Option (List Value)). is_some o) (keeps_sees a b t around (row_in table n) top.early begun on l.keeps) ∙ h

  pub all_still_seen : (rest : List Taken) → AreSeen a t table rest → AreSeen b t table rest
  all_still_seen [] h = tt
  all_still_seen (r ∷ rest) h = (still_seen r.row h.0, all_still_seen rest h.1)

  pub still_begun : is_some (own b t).begun ≡ true
  still_begun = ap (λ (o : Option ℕ). is_some o) (l.keeps.begun begun) ∙ begun

module _ (living : List TableDef) (w : Site) (deeper : AllWork living w.deeper) (k : Work) (outer : UnderChange) (on : under_by w.changing w.tx k.plan.table.id ≡ true) (off : outer w.tx k.plan.table.id ≡ false)
    (wider : (x : TableId) → outer w.tx x ≡ true → under_by w.changing w.tx x ≡ true) (lives : find (has_id k.plan.table.id) living ≡ Some k.plan.table) where
  -- the statement may go on from here
  record Stands (σ : Doing) : Type 0 where
    fit : IsIntact living σ.base.data_now
    top : IsTop σ.base.data_now w.tx
    begun : is_some (own σ.base.data_now w.tx).begun ≡ true

  abbrev Seen : Doing → List Taken → Type 0
  Seen σ rest = AreSeen σ.base.data_now w.tx k.plan.table.id rest

  -- What is done of a row, behind which the others are still seen.
  record RowWorks {A : Type 0} (σ : Doing) (row : Option RowNo) (o : Outcome Doing A) : Type 0 where
    works : WorksIn living σ.base w.tx outer o.made o.state.base
    begun : is_some (own o.state.base.data_now w.tx).begun ≡ true
    seen : (rest : List Taken) → FromAll row rest → Seen σ rest → Seen o.state rest

  row_same : {A : Type 0} (σ : Doing) (row : Option RowNo) (x : A) → Stands σ → RowWorks σ row (gives σ x)
  row_same σ row x s = record { works = in_same living w.tx outer σ.base s.fit; begun = s.begun; seen = λ rest from h. h }

  -- bodies leave all rows
  row_bodies : (σ : Doing) (row : Option RowNo) (size : ℕ) (o : Outcome Doing (Result (List Value) Code)) → Stands σ → RunsWell living w deeper σ size o → RowWorks σ row o
  row_bodies σ row size o s h = record {
    works = in_fewer living w.tx outer (under_by w.changing) wider σ.base o.state.base o.made h.works;
    begun = still_begun σ.base.data_now o.state.base.data_now w.tx (under_by w.changing) k.plan.table.id on s.top s.begun h.works.leaves;
    seen = λ rest from seen. all_still_seen σ.base.data_now o.state.base.data_now w.tx (under_by w.changing) k.plan.table.id on s.top s.begun h.works.leaves rest seen;
  }

  stands_behind : {A : Type 0} (σ : Doing) (row : Option RowNo) (o : Outcome Doing A) → Stands σ → RowWorks σ row o → Stands o.state
  stands_behind σ row o s h = record {
    fit = fit_behind living σ.base o.state.base o.made h.works.works s.fit;
    top = top_stays σ.base.data_now o.state.base.data_now w.tx outer s.top h.works.leaves;
    begun = h.begun;
  }

  row_both : {A B : Type 0} (σ : Doing) (row : Option RowNo) (o : Outcome Doing A) (f : A → Doing → Outcome Doing B) → RowWorks σ row o → RowWorks o.state row (f o.value o.state) → RowWorks σ row (and_then o f)
  row_both σ row o f h l = record {
    works = in_both living w.tx outer σ.base o.state.base (f o.value o.state).state.base o.made (f o.value o.state).made h.works l.works;
    begun = l.begun;
    seen = λ rest from seen. l.seen rest from (h.seen rest from seen);
  }

  row_then : (σ : Doing) (row : Option RowNo) (o : Outcome Doing (Result (List Value) Code)) (f : List Value → Doing → Outcome Doing (Result (List Value) Code)) → Stands σ → RowWorks σ row o
      → ((new : List Value) → o.value ≡ Ok new → RowWorks o.state row (f new o.state)) → RowWorks σ row (then_run o f)
  row_then σ row o f s h next = row_both σ row o (go_on f) h (by o.value refl)
    where
      by : (v : Result (List Value) Code) → o.value ≡ v → RowWorks o.state row (go_on f v o.state)
      by (Ok new) e = next new e
      by (Err code) e = row_same o.state row (Err code) (stands_behind σ row o s h)

  -- ---- the change of a row

  changed_works : (r : Taken) (new : List Value) (σ : Doing) → Stands σ → length new ≡ length k.plan.table.columns → IsSeen σ.base.data_now w.tx k.plan.table.id r.row → RowWorks σ r.row (changed w k r new σ)
  changed_works r new σ s as_many seen = by (written σ.base.data_now w.tx k.plan r new) refl
    where
      live : IsLive σ.base.data_now w.tx
      live = top_live σ.base.data_now w.tx s.top

      by : (x : Result Data Code) → written σ.base.data_now w.tx k.plan r new ≡ x
          → RowWorks σ r.row (go_on (λ d σ'. bodies w k.operation k.after (old_values k.plan r) (after_values k.plan new) (at_data d σ')) x σ)
      by (Err code) e = row_same σ r.row (Err code) s
      by (Ok d) e =
          let g : Over σ.base.data_now w.tx d = written_over σ.base.data_now d w.tx k.plan r new e in
          let left : Leaves σ.base.data_now w.tx outer d = written_leaves σ.base.data_now d w.tx outer k.plan r new live off e in
          let intact : IsIntactBy (IsSuitable living) d = written_intact living σ.base.data_now w.tx s.fit.intact k.plan live s.begun (s.fit.known k.plan.table.id k.plan.table lives) lives r new d as_many seen e in
          let mid : RowWorks σ r.row (gives (at_data d σ) nothing) = record {
            works = record { works = works_none living σ.base (with_data d σ.base) (ap (λ (x : Data). x.commits) g.is) (ap (λ (x : Data). x.tables) g.is) intact; leaves = left };
            begun = ap (λ (o : Option ℕ). is_some o) (left.keeps.begun s.begun) ∙ s.begun;
            seen = λ rest from h. rest-seen σ.base.data_now d w.tx k.plan r rest new live e from h;
          } in
          let s' : Stands (at_data d σ) = stands_behind σ r.row (gives (at_data d σ) nothing) s mid in
          row_both σ r.row (gives (at_data d σ) nothing) (λ u σ'. bodies w k.operation k.after (old_values k.plan r) (after_values k.plan new) σ') mid
          (row_bodies (at_data d σ) r.row (length (after_values k.plan new)) (bodies w k.operation k.after (old_values k.plan r) (after_values k.plan new) (at_data d σ)) s'
          (bodies_work living w deeper k.operation k.after (old_values k.plan r) (after_values k.plan new) (at_data d σ) s'.fit s'.top))

  row_works : (r : Taken) (σ : Doing) → Stands σ → IsSeen σ.base.data_now w.tx k.plan.table.id r.row → RowWorks σ r.row (one_row w k r σ)
  row_works r σ s seen = by (new_values k.plan k.binds r) refl
    where
      by : (v : Result (List Value) Code) → new_values k.plan k.binds r ≡ v → RowWorks σ r.row (go_on (λ new σ'. then_run (bodies w k.operation k.before (old_values k.plan r) new σ') (changed w k r)) v σ)
      by (Err code) e = row_same σ r.row (Err code) s
      by (Ok new) e =
          let o : Outcome Doing (Result (List Value) Code) = bodies w k.operation k.before (old_values k.plan r) new σ in
          let ran : RunsWell living w deeper σ (length new) o = bodies_work living w deeper k.operation k.before (old_values k.plan r) new σ s.fit s.top in
          let h : RowWorks σ r.row o = row_bodies σ r.row (length new) o s ran in
          let long : IfOk o.value (λ new'. length new' ≡ length new) = ran.long in
          row_then σ r.row o (changed w k r) s h (λ new' is.
          changed_works r new' o.state (stands_behind σ r.row o s h) (subst (λ v. IfOk v (λ new'. length new' ≡ length new)) is long ∙ as_many_as_columns k.plan k.binds r new e)
          (still_seen σ.base.data_now o.state.base.data_now w.tx (under_by w.changing) k.plan.table.id on s.top s.begun ran.works.leaves r.row seen))

  -- ---- all rows

  rows_work : (n : ℕ) (taken : List Taken) (σ : Doing) → Stands σ → Apart taken → Seen σ taken → WorksIn living σ.base w.tx outer (rows w k n taken σ).made (rows w k n taken σ).state.base
  rows_work n [] σ s apart seen = in_same living w.tx outer σ.base s.fit
  rows_work n (r ∷ rest) σ s apart seen =
      let o : Outcome Doing (Result (List Value) Code) = one_row w k r σ in
      let h : RowWorks σ r.row o = row_works r σ s seen.0 in
      by o h (λ s' seen'. rows_work n rest o.state s' apart.1 seen') o.value
    where
      by : (o : Outcome Doing (Result (List Value) Code)) (h : RowWorks σ r.row o) → (Stands o.state → Seen o.state rest → WorksIn living o.state.base w.tx outer (rows w k n rest o.state).made (rows w k n rest o.state).state.base)
          → (v : Result (List Value) Code)
          → WorksIn living σ.base w.tx outer (o.made ++ (go_on (λ new σ'. rows w k n rest σ') v o.state).made) (go_on (λ new σ'. rows w k n rest σ') v o.state).state.base
      by o h next (Ok new) =
          in_both living w.tx outer σ.base o.state.base (rows w k n rest o.state).state.base o.made (rows w k n rest o.state).made h.works
          (next (stands_behind σ r.row o s h) (h.seen rest apart.0 seen.1))
      by o h next (Err code) = in_both living w.tx outer σ.base o.state.base o.state.base o.made [] h.works (in_same living w.tx outer o.state.base (stands_behind σ r.row o s h).fit)

  pub all_rows_work : (found : Result (List Taken) Code) (σ : Doing) → IsIntact living σ.base.data_now → IsTop σ.base.data_now w.tx → is_some (own σ.base.data_now w.tx).begun ≡ true → FoundApart found
      → RestSeen σ.base.data_now w.tx k.plan.table.id found → WorksIn living σ.base w.tx outer (rows_of w k found σ).made (rows_of w k found σ).state.base
  all_rows_work (Ok taken) σ fit top begun apart seen = rows_work (length taken) taken σ (record { fit = fit; top = top; begun = begun }) apart seen
  all_rows_work (Err code) σ fit top begun apart seen = in_same living w.tx outer σ.base fit
