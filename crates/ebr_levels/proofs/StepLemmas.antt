-- A statement that changes rows, step by step: what a step leaves, and that the next one can be made after bodies have run.
use Rattle.std.proofs.Common.{◌≡◌, ◌+◌, ℕ, Bool, true, false, List, [], ◌∷◌, Option, Some, None, Ok, Err, refl, sym, ap, subst, ◌∙◌}
use Rattle.std.specs.Prelude.{is_some, unwrap_or, Result, OnErr}
use Rattle.ebr_base.specs.declared.code.Code.{Code}
use Rattle.ebr_base.specs.declared.code.Stop.{Stop}
use Rattle.ebr_base.specs.declared.numbers.RowNo.{RowNo}
use Rattle.ebr_base.specs.declared.row.Change.{Change}
use Rattle.ebr_base.specs.declared.row.TxId.{TxId}
use Rattle.ebr_base.specs.declared.value.Value.{Value}
use Rattle.ebr_versions.specs.Keys.{row_in}
use Rattle.ebr_tx.specs.Data.{Data, IsLive}
use Rattle.ebr_tx.specs.Calls.{unless_refused, after_begin, after_change, insertion}
use Rattle.ebr_query.specs.Queries.{AddsLocks}
use Rattle.ebr_sqlcheck.specs.Checked.{on}
use Rattle.ebr_dml.specs.declared.plan.Plan.{Plan}
use Rattle.ebr_dml.specs.declared.plan.Work.{Work}
use Rattle.ebr_dml.specs.declared.plan.Work.TheVariants.{Set, Remove}
use Rattle.ebr_dml.specs.declared.step.DmlStep.{DmlStep}
use Rattle.ebr_dml.specs.declared.step.DmlStep.TheVariants.{After, Before}
use Rattle.ebr_dml.specs.declared.taken.Taken.{Taken}
use Rattle.ebr_dml.specs.Images.{after_values, new_values, old_values}
use Rattle.ebr_dml.specs.Steps.{AreSeen, CanStep, Gives, IsSeen, RestSeen, DmlState, Stepped, next_step, row_step, stepped}
use Rattle.ebr_dml.specs.Tests.{delete_tests, first_code, insert_tests, removal, tested, update, update_tests, written, written_to}
use Rattle.ebr_levels.specs.Keeps.{UnderChange}
use Rattle.ebr_levels.specs.Levels.{IsTop, Leaves}
use Rattle.ebr_levels.proofs.LeavesLemmas.{keeps_sees, leaves_begun, leaves_changed, leaves_equal, leaves_known_one, leaves_leaves, leaves_live, leaves_with_locks}

-- locks of rows, as a query takes them
pub leaves_locks : (d d' : Data) (t : TxId) (under : UnderChange) → AddsLocks d t d' → Leaves d t under d'
leaves_locks d d' t under l = leaves_with_locks d d' t under l.added l.is

-- a query, whose transaction begins with it
pub leaves_query : (d d1 d2 : Data) (t : TxId) (under : UnderChange) → IsLive d t → d1 ≡ after_begin d t → AddsLocks d1 t d2 → Leaves d t under d2
leaves_query d d1 d2 t under there is l = leaves_leaves d d1 d2 t under (leaves_begun d d1 t under there is) (leaves_locks d1 d2 t under l)

-- ---- the next step

pub can_still_step : (d d' : Data) (s : DmlState) (under : UnderChange) → IsTop d s.tx → under s.tx s.plan.table.id ≡ true → CanStep d s → Leaves d s.tx under d' → CanStep d' s
can_still_step d d' s under top on can l = record {
  live = leaves_live d d' s.tx s.tx under l can.live;
  begun = ap (λ (o : Option ℕ). is_some o) (l.keeps.begun can.begun) ∙ can.begun;
  known = leaves_known_one d d' s.tx under s.plan.table l can.known;
  seen = rest_on s.rest can.seen;
}
  where
    one : (row : Option RowNo) → IsSeen d s.tx s.plan.table.id row → IsSeen d' s.tx s.plan.table.id row
    one None h = tt
    one (Some n) h = ap (λ (o : Option (List Value)). is_some o) (keeps_sees d d' s.tx under (row_in s.plan.table.id n) top.early can.begun on l.keeps) ∙ h

    all : (rows : List Taken) → AreSeen d s.tx s.plan.table.id rows → AreSeen d' s.tx s.plan.table.id rows
    all [] h = tt
    all (r ∷ rest) h = (one r.row h.0, all rest h.1)

    rest_on : (rest : Result (List Taken) Code) → RestSeen d s.tx s.plan.table.id rest → RestSeen d' s.tx s.plan.table.id rest
    rest_on (Ok rows) h = all rows h
    rest_on (Err code) h = tt

-- ---- what a step leaves

from_tested : (d d' : Data) (t : TxId) (tests : List (Option Code)) (c : Change) → tested d t tests c ≡ Ok d' → d' ≡ after_change d t c
from_tested d d' t tests c e = by (first_code tests) e
  where
    by : (o : Option Code) → unless_refused o (after_change d t c) ≡ Ok d' → d' ≡ after_change d t c
    by None h = cc
    by (Some code) h = cc

pub written_leaves : (d d' : Data) (t : TxId) (under : UnderChange) (p : Plan) (r : Taken) (values : List Value) → IsLive d t → under t p.table.id ≡ false → written d t p r values ≡ Ok d' → Leaves d t under d'
written_leaves d d' t under p r values there off e = by r.row p.work e
  where
    by : (row : Option RowNo) (w : Work) → written_to d t (record p { work = w }) row values ≡ Ok d' → Leaves d t under d'
    by None w e = leaves_changed d d' t under (insertion d p.table.id values) there off (from_tested d d' t (insert_tests d t p.table values) (insertion d p.table.id values) e)
    by (Some n) (Set sets) e =
        leaves_changed d d' t under (update (row_in p.table.id n) values) there off
        (from_tested d d' t (update_tests d t p.table (row_in p.table.id n) values) (update (row_in p.table.id n) values) e)
    by (Some n) Remove e =
        leaves_changed d d' t under (removal (row_in p.table.id n)) there off (from_tested d d' t (delete_tests d t (row_in p.table.id n)) (removal (row_in p.table.id n)) e)

abbrev data_in : Data → Result Stepped Code → Data
data_in d (Ok x) = x.data_after
data_in d (Err code) = d

module _ (d : Data) (s : DmlState) (under : UnderChange) (there : IsLive d s.tx) (off : under s.tx s.plan.table.id ≡ false) where
  unmoved : (x : Stepped) → d ≡ x.data_after → Leaves d s.tx under x.data_after
  unmoved x is = leaves_equal d x.data_after s.tx under (sym is)

  pub stepped_leaves : (after : Option (List Value)) (x : Stepped) → stepped s d after ≡ Ok x → Leaves d s.tx under x.data_after
  stepped_leaves after x e = by s.rest e
    where
      before : (r : Taken) (v : Result (List Value) Code)
          → ◌≡◌ {A = Result Stepped Code} (on (λ new. Ok (record { answer = Before (old_values s.plan r) new; standing = record s { begun = true }; data_after = d })) v) (Ok x) → Leaves d s.tx under x.data_after
      before r (Ok new) e = unmoved x (ap (data_in d) e)
      before r (Err code) e = cc

      behind : (r : Taken) (rows : List Taken) (new : List Value) (w : Result Data Code) → written d s.tx s.plan r new ≡ w
          → ◌≡◌ {A = Result Stepped Code} (on (λ d'. Ok (record {
            answer = After (old_values s.plan r) (after_values s.plan new);
            standing = record s { rest = Ok rows; begun = false; count = s.count + 1 };
            data_after = d';
          })) w) (Ok x) → Leaves d s.tx under x.data_after
      behind r rows new (Ok d') is e = subst (Leaves d s.tx under) (ap (data_in d) e) (written_leaves d d' s.tx under s.plan r new there off is)
      behind r rows new (Err code) is e = cc

      row : (b : Bool) (r : Taken) (rows : List Taken) (new : List Value) → row_step b s d r rows new ≡ Ok x → Leaves d s.tx under x.data_after
      row false r rows new e = before r (new_values s.plan s.binds r) e
      row true r rows new e = behind r rows new (written d s.tx s.plan r new) refl e

      by : (rest : Result (List Taken) Code) → on (λ rows. next_step s d rows (unwrap_or after [])) rest ≡ Ok x → Leaves d s.tx under x.data_after
      by (Ok []) e = unmoved x (ap (data_in d) e)
      by (Ok (r ∷ rows)) e = row s.begun r rows (unwrap_or after []) e
      by (Err code) e = cc

  -- whatever a step answers
  pub step_leaves : (d' : Data) (s' : DmlState) (after : Option (List Value)) (r : Result DmlStep Stop) → Gives r s' d' (stepped s d after) → OnErr r (d' ≡ d) → Leaves d s.tx under d'
  step_leaves d' s' after (Ok answer) gives same = stepped_leaves after (record { answer = answer; standing = s'; data_after = d' }) gives
  step_leaves d' s' after (Err e) gives same = leaves_equal d d' s.tx under same
