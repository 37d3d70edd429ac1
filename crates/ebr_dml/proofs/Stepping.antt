-- What a step gives, by where the statement stands.
use Rattle.std.proofs.Common.{◌≡◌, ℕ, zero, suc, ◌+◌, Bool, true, false, List, [], ◌∷◌, drop, Option, Some, None, Result, Ok, Err, is_some, unwrap_or, refl, sym, ap, ◌∙◌, subst}
use Rattle.std.specs.Prelude.{slice_get, IfOk}
use Rattle.ebr_base.specs.Answers.{Answers}
use Rattle.ebr_base.specs.declared.code.Code.{Code}
use Rattle.ebr_base.specs.declared.code.Stop.{Stop}
use Rattle.ebr_base.specs.declared.code.Stop.TheVariants.{Raised, NoMemory}
use Rattle.ebr_base.specs.declared.row.TxId.{TxId}
use Rattle.ebr_base.specs.declared.value.Value.{Value}
use Rattle.ebr_ast.specs.declared.sql.SqlTree.{SqlTree}
use Rattle.ebr_ast.specs.declared.view.EditionView.{EditionView}
use Rattle.ebr_sqlcheck.specs.Checked.{on}
use Rattle.ebr_tx.specs.Data.{Data, IsLive, own}
use Rattle.ebr_tx.specs.Calls.{IsKnown}
use Rattle.ebr_dml.specs.declared.plan.Plan.{Plan}
use Rattle.ebr_dml.specs.declared.step.DmlStep.{DmlStep}
use Rattle.ebr_dml.specs.declared.step.DmlStep.TheVariants.{Before, After, Finished}
use Rattle.ebr_dml.specs.declared.taken.Taken.{Taken}
use Rattle.ebr_dml.specs.Plans.{plan_of}
use Rattle.ebr_dml.specs.Rows.{rows_of}
use Rattle.ebr_dml.specs.Images.{old_values, new_values, after_values}
use Rattle.ebr_dml.specs.Tests.{written}
use Rattle.ebr_dml.specs.Steps.{DmlState, Stepped, first_dml, before_row, after_row, row_step, next_step, stepped, Gives, Stays, AreKnown, IsSeen, RestSeen, CanStep}
use Rattle.ebr_dml.specs.inside.Apart.{Apart, FoundApart, found_from}
use Rattle.ebr_dml.specs.inside.Writes.{Changes}
use Rattle.ebr_dml.proofs.Going.{rest-seen, still-known, still-live}
use Rattle.ebr_dml.proofs.Known.{plan-known}
use Rattle.ebr_dml.proofs.Taking.{from-some, from-none}
use Rattle.ebr_dml.proofs.RowLemmas.{StartSeen, StartApart, start-seen, start-apart}

-- ---- the rows to come

pub apart-from : (at : ℕ) (rows : List Taken) → Apart rows → Apart (drop at rows)
apart-from zero rows h = h
apart-from (suc at) [] h = tt
apart-from (suc at) (r ∷ rest) h = apart-from at rest h.1

-- ---- the answers

module _ (s : DmlState) (d : Data) (after : Option (List Value)) where
  pub gives-fault : (code : Code) → s.rest ≡ Err code → stepped s d after ≡ Err code
  gives-fault code e = ap (on (λ rows. next_step s d rows (unwrap_or after []))) e

  pub gives-end : s.rest ≡ Ok [] → stepped s d after ≡ Ok (record { answer = Finished s.count; standing = s; data_after = d })
  gives-end e = ap (on (λ rows. next_step s d rows (unwrap_or after []))) e

  module _ (r : Taken) (rest : List Taken) (is : s.rest ≡ Ok (r ∷ rest)) where
    first-turn : s.begun ≡ false → stepped s d after ≡ before_row s d r
    first-turn e =
        ap (on (λ rows. next_step s d rows (unwrap_or after []))) is
        ∙ ap (λ b. row_step b s d r rest (unwrap_or after [])) e

    second-turn : s.begun ≡ true → stepped s d after ≡ after_row s d r rest (unwrap_or after [])
    second-turn e =
        ap (on (λ rows. next_step s d rows (unwrap_or after []))) is
        ∙ ap (λ b. row_step b s d r rest (unwrap_or after [])) e

    pub gives-before : (step : DmlStep) → s.begun ≡ false → on (λ new. Ok (Before (old_values s.plan r) new)) (new_values s.plan s.binds r) ≡ Ok step
        → stepped s d after ≡ Ok (record { answer = step; standing = record s { begun = true }; data_after = d })
    gives-before step e h = first-turn e ∙ by (new_values s.plan s.binds r) h
      where
        by : (new : Result (List Value) Code) → on (λ new. Ok (Before (old_values s.plan r) new)) new ≡ Ok step
            → ◌≡◌ {A = Result Stepped Code} (on (λ new. Ok (record { answer = Before (old_values s.plan r) new; standing = record s { begun = true }; data_after = d })) new)
            (Ok (record { answer = step; standing = record s { begun = true }; data_after = d }))
        by (Ok new) k = ap (λ (x : Result DmlStep Code). on (λ (a : DmlStep). Ok (record { answer = a; standing = record s { begun = true }; data_after = d })) x) k
        by (Err code) k = cc

    pub refused-before : (code : Code) → s.begun ≡ false → on (λ new. Ok (Before (old_values s.plan r) new)) (new_values s.plan s.binds r) ≡ Err code
        → stepped s d after ≡ Err code
    refused-before code e h = first-turn e ∙ by (new_values s.plan s.binds r) h
      where
        by : (new : Result (List Value) Code) → ◌≡◌ {A = Result DmlStep Code} (on (λ new. Ok (Before (old_values s.plan r) new)) new) (Err code)
            → ◌≡◌ {A = Result Stepped Code} (on (λ new. Ok (record { answer = Before (old_values s.plan r) new; standing = record s { begun = true }; data_after = d })) new) (Err code)
        by (Ok new) k = cc
        by (Err c) k = cc

    pub gives-after : (step : DmlStep) (d' : Data) → s.begun ≡ true
        → Changes (Ok step) (old_values s.plan r) (after_values s.plan (unwrap_or after [])) d' (written d s.tx s.plan r (unwrap_or after []))
        → stepped s d after ≡ Ok (record { answer = step; standing = record s { rest = Ok rest; begun = false; count = s.count + 1 }; data_after = d' })
    gives-after step d' e h =
        second-turn e
        ∙ ap (on (λ x. Ok (record {
          answer = After (old_values s.plan r) (after_values s.plan (unwrap_or after []));
          standing = record s { rest = Ok rest; begun = false; count = s.count + 1 };
          data_after = x;
        }))) h.1
        ∙ ap (λ a. Ok (record { answer = a; standing = record s { rest = Ok rest; begun = false; count = s.count + 1 }; data_after = d' })) (sym h.0)

    pub refused-after : (e : Stop) (s' : DmlState) (d' : Data) → s.begun ≡ true
        → Changes (Err e) (old_values s.plan r) (after_values s.plan (unwrap_or after [])) d' (written d s.tx s.plan r (unwrap_or after []))
        → Gives (Err e) s' d' (stepped s d after)
    refused-after (Raised code) s' d' e h =
        second-turn e
        ∙ ap (on (λ x. Ok (record {
          answer = After (old_values s.plan r) (after_values s.plan (unwrap_or after []));
          standing = record s { rest = Ok rest; begun = false; count = s.count + 1 };
          data_after = x;
        }))) h
    refused-after NoMemory s' d' e h = tt

    pub refused-first : (e : Stop) (s' : DmlState) (d' : Data) → s.begun ≡ false
        → Answers {T = DmlStep} (Err e) (on (λ new. Ok (Before (old_values s.plan r) new)) (new_values s.plan s.binds r))
        → Gives (Err e) s' d' (stepped s d after)
    refused-first (Raised code) s' d' e h = refused-before code e h
    refused-first NoMemory s' d' e h = tt

-- ---- the next step can be made

pub can-change : (d after : Data) (s : DmlState) (r : Taken) (rest : List Taken) (new : List Value) (step : DmlStep) → CanStep d s → s.rest ≡ Ok (r ∷ rest)
    → Apart (r ∷ rest) → Stays d s.tx after
    → Changes (Ok step) (old_values s.plan r) (after_values s.plan new) after (written d s.tx s.plan r new)
    → CanStep after (record s { rest = Ok rest; begun = false; count = s.count + 1 })
can-change d after s r rest new step can is apart stays h = record {
  live = still-live d after s.tx stays can.live;
  begun = ap is_some stays.begun ∙ can.begun;
  known = still-known d after s.tx s.plan stays can.known;
  seen = rest-seen d after s.tx s.plan r rest new can.live h.1 apart.0 (subst (RestSeen d s.tx s.plan.table.id) is can.seen).1;
}

-- ---- a statement at its start

pub from-first : (found : Result (List Taken) Code) → found_from 0 found ≡ found
from-first (Ok rows) = refl
from-first (Err code) = refl

module _ (d : Data) (t : TxId) (v : EditionView) (s : SqlTree) (binds : List Value) (p : Plan) (found : Result (List Taken) Code) (planned : plan_of v s ≡ Ok p) (rows : rows_of d t s p binds ≡ Ok found) where
  pub can-start : (kept : List Value) → AreKnown d v.tables → IsLive d t → is_some (own d t).begun ≡ true → CanStep d (first_dml t kept p (found_from 0 found))
  can-start kept known live begun = record {
    live = live;
    begun = begun;
    known = subst (λ r. IfOk r (λ (x : Plan). IsKnown d x.table)) planned (plan-known (IsKnown d) v known s);
    seen = subst (RestSeen d t p.table.id) (sym (from-first found)) (subst (StartSeen d t p.table.id) rows (start-seen d t p binds s));
  }

  pub found-apart : FoundApart found
  found-apart = subst StartApart rows (start-apart d t p binds s)

-- ---- a step, by what a statement holds

abbrev pub standing_of : Plan → TxId → List Value → Result (List Taken) Code → ℕ → Bool → DmlState
standing_of p t binds found at begun = record { plan = p; tx = t; binds = binds; rest = found_from at found; begun = begun; count = at }

module _ (d : Data) (after : Option (List Value)) (p : Plan) (t : TxId) (binds : List Value) (found : Result (List Taken) Code) (at : ℕ) (begun : Bool)
    (s : DmlState) (view : standing_of p t binds found at begun ≡ s) (rows : List Taken) (is : found ≡ Ok rows) where
  abbrev now : DmlState
  now = standing_of p t binds found at begun

  pub step-end : slice_get rows at ≡ None → stepped s d after ≡ Ok (record { answer = Finished at; standing = s; data_after = d })
  step-end e =
      subst (λ (x : DmlState). stepped x d after ≡ Ok (record { answer = Finished at; standing = x; data_after = d })) view
      (gives-end now d after (ap (found_from at) is ∙ ap Ok (from-none at rows e)))

  module _ (row : Taken) (some : slice_get rows at ≡ Some row) where
    rest-is : found_from at found ≡ Ok (row ∷ drop (at + 1) rows)
    rest-is = ap (found_from at) is ∙ ap Ok (from-some at rows row some)

    can-now : CanStep d s → CanStep d now
    can-now can = subst (CanStep d) (sym view) can

    pub seen-now : (q : Plan) → q ≡ p → CanStep d s → IsSeen d t q.table.id row.row
    seen-now q e can =
        subst (λ (x : Plan). IsSeen d t x.table.id row.row) (sym e) (subst (RestSeen d t p.table.id) rest-is (can-now can).seen).0

    module _ (q : Plan) (same : q ≡ p) where
      pub step-before : (step : DmlStep) → begun ≡ false → on (λ new. Ok (Before (old_values q row) new)) (new_values q binds row) ≡ Ok step
          → stepped s d after ≡ Ok (record { answer = step; standing = standing_of p t binds found at true; data_after = d })
      step-before step b h =
          subst (λ (x : DmlState). stepped x d after ≡ Ok (record { answer = step; standing = standing_of p t binds found at true; data_after = d })) view
          (gives-before now d after row (drop (at + 1) rows) rest-is step b
          (subst (λ (x : Plan). on (λ new. Ok (Before (old_values x row) new)) (new_values x binds row) ≡ Ok step) same h))

      pub step-refused-first : (e : Stop) → begun ≡ false
          → Answers {T = DmlStep} (Err e) (on (λ new. Ok (Before (old_values q row) new)) (new_values q binds row))
          → Gives (Err e) s d (stepped s d after)
      step-refused-first e b h =
          subst (λ (x : DmlState). Gives (Err e) x d (stepped x d after)) view
          (refused-first now d after row (drop (at + 1) rows) rest-is e now d b
          (subst (λ (x : Plan). Answers {T = DmlStep} (Err e) (on (λ new. Ok (Before (old_values x row) new)) (new_values x binds row))) same h))

      module _ (new : List Value) (left : new ≡ unwrap_or after []) (d' : Data) where
        changes : (r : Result DmlStep Stop) → Changes r (old_values q row) (after_values q new) d' (written d t q row new)
            → Changes r (old_values p row) (after_values p (unwrap_or after [])) d' (written d t p row (unwrap_or after []))
        changes r h =
            subst (λ (x : List Value). Changes r (old_values p row) (after_values p x) d' (written d t p row x)) left
            (subst (λ (x : Plan). Changes r (old_values x row) (after_values x new) d' (written d t x row new)) same h)

        pub step-refused-after : (e : Stop) → begun ≡ true → Changes (Err e) (old_values q row) (after_values q new) d' (written d t q row new)
            → Gives (Err e) s d' (stepped s d after)
        step-refused-after e b h =
            subst (λ (x : DmlState). Gives (Err e) x d' (stepped x d after)) view
            (refused-after now d after row (drop (at + 1) rows) rest-is e now d' b (changes (Err e) h))

        later : found_from (at + 1) found ≡ Ok (drop (at + 1) rows)
        later = ap (found_from (at + 1)) is

        pub step-after : (step : DmlStep) → begun ≡ true → Changes (Ok step) (old_values q row) (after_values q new) d' (written d t q row new)
            → stepped s d after ≡ Ok (record { answer = step; standing = standing_of p t binds found (at + 1) false; data_after = d' })
        step-after step b h =
            subst (λ (x : DmlState). stepped x d after ≡ Ok (record { answer = step; standing = standing_of p t binds found (at + 1) false; data_after = d' })) view
            (gives-after now d after row (drop (at + 1) rows) rest-is step d' b (changes (Ok step) h)
            ∙ ap (λ (r : Result (List Taken) Code). Ok (record {
              answer = step;
              standing = record { plan = p; tx = t; binds = binds; rest = r; begun = false; count = at + 1 };
              data_after = d';
            })) (sym later))

        pub step-ready : (step : DmlStep) → CanStep d s → Apart rows → Stays d t d' → Changes (Ok step) (old_values q row) (after_values q new) d' (written d t q row new)
            → CanStep d' (standing_of p t binds found (at + 1) false)
        step-ready step can apart stays h =
            subst (λ (r : Result (List Taken) Code). CanStep d' (record { plan = p; tx = t; binds = binds; rest = r; begun = false; count = at + 1 })) (sym later)
            (can-change d d' now row (drop (at + 1) rows) (unwrap_or after []) step (can-now can) rest-is
            (subst Apart (from-some at rows row some) (apart-from at rows apart)) stays (changes (Ok step) h))
