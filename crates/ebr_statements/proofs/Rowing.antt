-- The rows of a statement that are left.
use Rattle.std.proofs.Common.{◌≡◌, ℕ, ◌+◌, ◌⊎◌, inl, inr, true, false, List, [], ◌∷◌, length, map, Some, None, Result, Ok, Err, refl, sym, ap, subst, ◌∙◌, arith}
use Rattle.std.specs.Prelude.{OnOk}
use Rattle.ebr_base.specs.declared.code.Code.{Code}
use Rattle.ebr_tx.specs.Data.{Data}
use Rattle.ebr_record.specs.Keeper.{Keeper}
use Rattle.ebr_dml.specs.declared.taken.Taken.{Taken}
use Rattle.ebr_base.specs.declared.row.TxId.{TxId}
use Rattle.ebr_base.specs.declared.value.Value.{Value}
use Rattle.ebr_ast.specs.declared.view.EditionView.{EditionView}
use Rattle.ebr_cross.specs.declared.catalogue.Catalogue.{Catalogue}
use Rattle.ebr_database.specs.Storable.{AllStorable}
use Rattle.ebr_exec.specs.Places.{Under}
use Rattle.ebr_levels.specs.Keeps.{UnderChange}
use Rattle.ebr_levels.specs.Levels.{IsTop, Leaves}
use Rattle.ebr_statements.specs.Fits.{Remains}
use Rattle.ebr_statements.specs.inside.Fits.{Spares, under_by}
use Rattle.ebr_statements.proofs.Fitting.{can_go_on, remains_then, spared, step_remains}
use Rattle.ebr_exec.proofs.Fits.{as_many_as_columns}
use Rattle.ebr_dml.specs.Steps.{CanStep, DmlState}
use Rattle.ebr_database.specs.Outcome.{Outcome, gives, go_on}
use Rattle.ebr_dml.specs.Images.{after_values, new_values, old_values}
use Rattle.ebr_dml.specs.Steps.{stepped}
use Rattle.ebr_dml.specs.Tests.{written}
use Rattle.ebr_dml.specs.declared.step.DmlStep.{DmlStep}
use Rattle.ebr_dml.specs.declared.step.DmlStep.TheVariants.{Before, After, Finished}
use Rattle.ebr_database.specs.declared.failure.Failure.{Failure}
use Rattle.ebr_database.specs.declared.failure.Failure.TheVariants.{Refused, Halted}
use Rattle.ebr_database.specs.Shows.{GaveUp, Said, Shows}
use Rattle.ebr_database.proofs.Goes.{Goes, begins, ends, gives_up, says}
use Rattle.ebr_database.proofs.Keeping.{stays}
use Rattle.ebr_bodies.specs.Bodies.{Doing, Site, bodies}
use Rattle.ebr_bodies.specs.Rows.{Work, changed, rows, rows_of}
use Rattle.ebr_statements.specs.declared.start.Work.{Work as Triggers}
use Rattle.ebr_statements.specs.declared.tally.Tally.{Tally}
use Rattle.ebr_statements.specs.inside.Answered.{Steps}
use Rattle.ebr_statements.specs.inside.Held.{ready_of}
use Rattle.ebr_statements.specs.inside.Sites.{HasPassed, IsBetween, doing_at, work_at}
use Rattle.ebr_statements.proofs.Stepping.{BeforeRow, NoRow, RowRaises, after_row_is, after_row_refused, at, before, finished, kind, no_after, new_in, no_other, old_in, refused}
use Rattle.ebr_statements.proofs.Turns.{after_fails, before_fails, befores, change_refused, changed_is, row_done, row_refused}

-- the rows that are left, or the code that WHERE raised; there are so many in all
abbrev pub left_rows : Site → Work → ℕ → Result (List Taken) Code → Doing → Outcome Doing (Result ℕ Code)
left_rows w j n found σ = go_on (rows w j n) found σ

abbrev pub total_with : ℕ → Result (List Taken) Code → ℕ
total_with count (Ok taken) = count + length taken
total_with count (Err code) = 0

-- how many rows there are, those that are done among them
abbrev pub total_of : DmlState → ℕ
total_of s = total_with s.count s.rest

-- between two rows
pub record Row (first s : DmlState) (d : Data) : Type 0 where
  pub is : s ≡ record first { rest = s.rest; count = s.count }
  pub can : CanStep d s

pub rows_begin : (w : Site) (j : Work) (s : DmlState) (σ : Doing) (k : Keeper) → s.count ≡ 0 → Goes (rows_of w j s.rest σ) (left_rows w j (total_of s) s.rest σ) k k
rows_begin w j s σ k e = subst (λ o. Goes (rows_of w j s.rest σ) o k k) (by s.rest) (begins (rows_of w j s.rest σ) k)
  where
    by : (found : Result (List Taken) Code) → rows_of w j found σ ≡ left_rows w j (total_with s.count found) found σ
    by (Ok taken) =
        let none : length taken ≡ s.count + length taken = omega (arith, e) in
        ap (λ n. rows w j n taken σ) none
    by (Err code) = refl

module _ (w : Site) (j : Work) (s : DmlState) (σ : Doing) (whole : Outcome Doing (Result ℕ Code)) (k mid : Keeper) where
  pub at_row : (n : ℕ) (r : Taken) (rest : List Taken) → s.rest ≡ Ok (r ∷ rest) → Goes whole (left_rows w j n s.rest σ) k mid → Goes whole (rows w j n (r ∷ rest) σ) k mid
  at_row n r rest e g = subst (λ found. Goes whole (left_rows w j n found σ) k mid) e g

  -- WHERE raised a code
  pub where_raises : (n : ℕ) (code : Code) → s.rest ≡ Err code → Goes whole (left_rows w j n s.rest σ) k mid → Said whole σ k mid (Err code)
  where_raises n code e g = ends whole (gives σ (Err code)) k mid mid σ (Err code) (subst (λ found. Goes whole (left_rows w j n found σ) k mid) e g) (says σ (Err code) mid)

  -- no row is left
  pub rows_over : (n : ℕ) → s.rest ≡ Ok [] → n ≡ s.count → Goes whole (left_rows w j (total_of s) s.rest σ) k mid → Said whole σ k mid (Ok n)
  rows_over n e count g =
      let so : total_of s ≡ n = ap (total_with s.count) e ∙ more ∙ sym count in
      subst (λ m. Said whole σ k mid (Ok m)) so
      (ends whole (gives σ (Ok (total_of s))) k mid mid σ (Ok (total_of s)) (subst (λ found. Goes whole (left_rows w j (total_of s) found σ) k mid) e g) (says σ (Ok (total_of s)) mid))
    where
      more : s.count + 0 ≡ s.count
      more = omega arith

-- ---- a row that was given to its BEFORE triggers

pub begins_row : (s s' : DmlState) (d d' : Data) → s.begun ≡ false → (answer : DmlStep) (old new : List Value) → answer ≡ Before old new → stepped s d None ≡ at answer s' d' → BeforeRow s s' d d' old new
begins_row s s' d d' between answer old new is e = before s s' d d' between old new (e ∙ ap (λ (a : DmlStep). at a s' d') is)

pub never_after : (s s' : DmlState) (d d' : Data) → s.begun ≡ false → (answer : DmlStep) (old new : List Value) → answer ≡ After old new → stepped s d None ≡ at answer s' d' → ⊥
never_after s s' d d' between answer old new is e = no_after s s' d d' between old new (e ∙ ap (λ (a : DmlStep). at a s' d') is)

pub no_more : (s s' : DmlState) (d d' : Data) → s.begun ≡ false → (answer : DmlStep) (n : ℕ) → answer ≡ Finished n → stepped s d None ≡ at answer s' d' → NoRow s s' d d' n
no_more s s' d d' between answer n is e = finished s s' d d' between n (e ∙ ap (λ (a : DmlStep). at a s' d') is)

-- between two rows
pub is_between : (first s : DmlState) (d : Data) → Row first s d → first.begun ≡ false → s.begun ≡ false
is_between first s d row e = ap (λ (x : DmlState). x.begun) row.is ∙ e

pub now_between : (s s' : DmlState) (d d' : Data) (old new : List Value) → (b : BeforeRow s s' d d' old new) → IsBetween s' b.row b.rest
now_between s s' d d' old new b = record { begun = ap (λ (x : DmlState). x.begun) b.standing; rest_is = ap (λ (x : DmlState). x.rest) b.standing ∙ b.rest_is }

-- the next row
pub next_row : (first s s' s'' : DmlState) (d d' d'' : Data) (old new : List Value) (b : BeforeRow s s' d d' old new) → first.begun ≡ false → Row first s d → HasPassed s' b.rest s'' → CanStep d'' s'' → Row first s'' d''
next_row first s s' s'' d d' d'' old new b between row passed can =
    let plan : s''.plan ≡ first.plan = ap (λ (x : DmlState). x.plan) passed.is ∙ ap (λ (x : DmlState). x.plan) b.standing ∙ ap (λ (x : DmlState). x.plan) row.is in
    let tx : s''.tx ≡ first.tx = ap (λ (x : DmlState). x.tx) passed.is ∙ ap (λ (x : DmlState). x.tx) b.standing ∙ ap (λ (x : DmlState). x.tx) row.is in
    let binds : s''.binds ≡ first.binds = ap (λ (x : DmlState). x.binds) passed.is ∙ ap (λ (x : DmlState). x.binds) b.standing ∙ ap (λ (x : DmlState). x.binds) row.is in
    let begun : s''.begun ≡ first.begun = ap (λ (x : DmlState). x.begun) passed.is ∙ sym between in
    record { is = λ i. record { plan = plan i; tx = tx i; binds = binds i; rest = s''.rest; begun = begun i; count = s''.count }; can = can }

module _ (w : Site) (first : DmlState) (work : Triggers) (whole : Outcome Doing (Result ℕ Code)) (k mid : Keeper) (s s' : DmlState) (d d' : Data) (tally : Tally) (old new : List Value)
    (row : Row first s d) (goes : Goes whole (left_rows w (work_at first work) (total_of s) s.rest (doing_at d mid tally)) k mid) (b : BeforeRow s s' d d' old new) where
  abbrev j : Work
  j = work_at first work

  abbrev σ : Doing
  σ = doing_at d' mid tally

  abbrev given : Outcome Doing (Result (List Value) Code)
  given = bodies w work.operation (map ready_of work.before) old new σ

  computed : new_values first.plan first.binds b.row ≡ Ok new
  computed = subst (λ (x : DmlState). new_values x.plan x.binds b.row ≡ Ok new) row.is b.values

  at_next : Goes whole (rows w j (total_of s) (b.row ∷ b.rest) σ) k mid
  at_next =
      at_row w j s σ whole k mid (total_of s) b.row b.rest b.rest_is (subst (λ x. Goes whole (left_rows w j (total_of s) s.rest (doing_at x mid tally)) k mid) (sym b.same) goes)

  given_is : given ≡ befores w j b.row new σ computed
  given_is = ap (λ o. bodies w work.operation (map ready_of work.before) o new σ) (b.old_is ∙ ap (λ (x : DmlState). old_values x.plan b.row) row.is)

  same_work : work_at s' work ≡ j
  same_work = ap (λ x. work_at x work) b.standing ∙ ap (λ x. work_at x work) row.is

  -- its BEFORE triggers are refused, or give up
  pub row_before_fails : (now : Keeper) (τ : Doing) (e : Failure) → Shows given τ mid now (Err e) → Shows whole τ k now (Err e)
  row_before_fails now τ e h = before_fails w j b.row new σ computed (total_of s) b.rest whole k mid at_next now τ e (subst (λ o. Shows o τ mid now (Err e)) given_is h)

  -- its change, or its AFTER triggers
  pub row_after_fails : (mid' now : Keeper) (τ τ' : Doing) (new' : List Value) (e : Failure) → Said given τ mid mid' (Ok new') → Shows (changed w (work_at s' work) b.row new' τ) τ' mid' now (Err e) → Shows whole τ' k now (Err e)
  row_after_fails mid' now τ τ' new' e h h' =
      after_fails w j b.row new σ computed (total_of s) b.rest whole k mid at_next mid' now τ τ' new' e (subst (λ o. Said o τ mid mid' (Ok new')) given_is h)
      (subst (λ x. Shows (changed w x b.row new' τ) τ' mid' now (Err e)) same_work h')

  pub row_passes : (mid' now : Keeper) (τ τ' : Doing) (new' x : List Value) (s'' : DmlState) → Said given τ mid mid' (Ok new') → Said (changed w (work_at s' work) b.row new' τ) τ' mid' now (Ok x) → HasPassed s' b.rest s''
      → Goes whole (left_rows w j (total_of s'') s''.rest τ') k now
  row_passes mid' now τ τ' new' x s'' h h' passed =
      let done : Goes whole (rows w j (total_of s) b.rest τ') k now =
      row_done w j b.row new σ computed (total_of s) b.rest whole k mid at_next mid' now τ τ' new' x (subst (λ o. Said o τ mid mid' (Ok new')) given_is h)
      (subst (λ y. Said (changed w y b.row new' τ) τ' mid' now (Ok x)) same_work h') in
      let rest : s''.rest ≡ Ok b.rest = ap (λ (y : DmlState). y.rest) passed.is in
      let count : s''.count ≡ s.count + 1 = ap (λ (y : DmlState). y.count) passed.is ∙ ap (λ (y : DmlState). y.count + 1) b.standing in
      let counted : total_of s'' ≡ s.count + 1 + length b.rest = λ i. total_with (count i) (rest i) in
      let total : total_of s'' ≡ total_of s = counted ∙ one_more s.count b.rest ∙ sym (ap (total_with s.count) b.rest_is) in
      subst (λ n. Goes whole (left_rows w j n s''.rest τ') k now) (sym total) (subst (λ f. Goes whole (left_rows w j (total_of s) f τ') k now) (sym rest) done)
    where
      one_more : (n : ℕ) (rest : List Taken) → n + 1 + length rest ≡ n + length (b.row ∷ rest)
      one_more n rest = omega arith

-- ---- a step that fails, and the end

module _ (w : Site) (first : DmlState) (work : Triggers) (whole : Outcome Doing (Result ℕ Code)) (k mid : Keeper) (s s' : DmlState) (d d' : Data) (tally : Tally)
    (between : first.begun ≡ false) (row : Row first s d) (goes : Goes whole (left_rows w (work_at first work) (total_of s) s.rest (doing_at d mid tally)) k mid) where
  abbrev work_now : Work
  work_now = work_at first work

  raises : (code : Code) → (s.rest ≡ Err code) ⊎ RowRaises s code → Said whole (doing_at d mid tally) k mid (Err code)
  raises code (inl e) = where_raises w work_now s (doing_at d mid tally) whole k mid (total_of s) code e goes
  raises code (inr h) =
      row_refused w work_now h.row (doing_at d mid tally) (total_of s) h.rest whole k mid code (subst (λ (x : DmlState). new_values x.plan x.binds h.row ≡ Err code) row.is h.values)
      (at_row w work_now s (doing_at d mid tally) whole k mid (total_of s) h.row h.rest h.rest_is goes)

  pub step_fails : (e : Failure) → Steps (Err e) s' d' (stepped s d None) → d' ≡ d → Shows whole (doing_at d' mid tally) k mid (Err e)
  step_fails (Refused code) h same =
      subst (λ x. Said whole (doing_at x mid tally) k mid (Err code)) (sym same) (raises code (refused s s' d d' (is_between first s d row between) code h))
  step_fails (Halted why) h same = subst (λ y. GaveUp k mid whole.made y) (sym h) (gives_up whole (left_rows w work_now (total_of s) s.rest (doing_at d mid tally)) k mid goes)

  pub rows_done : (n : ℕ) → NoRow s s' d d' n → Said whole (doing_at d' mid tally) k mid (Ok n)
  rows_done n h = subst (λ x. Said whole (doing_at x mid tally) k mid (Ok n)) (sym h.same) (rows_over w work_now s (doing_at d mid tally) whole k mid n h.rest_is h.count goes)

-- ---- one row's change

module _ (w : Site) (work : Triggers) (s s' : DmlState) (d d' : Data) (k : Keeper) (tally : Tally) (new : List Value) (r : Taken) (rest : List Taken) (own : s.tx ≡ w.tx) (b : IsBetween s r rest) where
  abbrev change : Outcome Doing (Result (List Value) Code)
  change = changed w (work_at s work) r new (doing_at d k tally)

  pub write_fails : (e : Failure) → Steps (Err e) s' d' (stepped s d (Some new)) → d' ≡ d → Shows change (doing_at d' k tally) k k (Err e)
  write_fails (Refused code) h same =
      let e : written d s.tx s.plan r new ≡ Err code = after_row_refused s s' d d' new r rest b.begun b.rest_is code h in
      subst (λ x. Said change (doing_at x k tally) k k (Err code)) (sym same)
      (change_refused w (work_at s work) r (doing_at d k tally) new k code (subst (λ t. written d t s.plan r new ≡ Err code) own e))
  write_fails (Halted why) h same = subst (λ y. GaveUp k k change.made y) (sym h) (stays k change.made)

  module _ (answer : DmlStep) (e : stepped s d (Some new) ≡ at answer s' d') where
    pub write_not_before : {Q : Type 0} (x y : List Value) → answer ≡ Before x y → Q
    write_not_before x y is = let n : 0 ≡ 1 = ap kind (sym is) ∙ no_other s s' d d' new r rest b.begun b.rest_is answer e in absurd (omega (arith, n))

    pub write_not_finished : {Q : Type 0} (n : ℕ) → answer ≡ Finished n → Q
    write_not_finished m is = let n : 2 ≡ 1 = ap kind (sym is) ∙ no_other s s' d d' new r rest b.begun b.rest_is answer e in absurd (omega (arith, n))

    pub write_goes_on : (x y : List Value) → answer ≡ After x y → change ≡ bodies w work.operation (map ready_of work.after) x y (doing_at d' k tally)
    write_goes_on x y is =
        let h = after_row_is s s' d d' new r rest b.begun b.rest_is answer e in
        let there : After x y ≡ After (old_values s.plan r) (after_values s.plan new) = sym is ∙ h.1 in
        let same : bodies w work.operation (map ready_of work.after) x y (doing_at d' k tally) ≡ bodies w work.operation (map ready_of work.after) (old_values s.plan r) (after_values s.plan new) (doing_at d' k tally) =
        λ i. bodies w work.operation (map ready_of work.after) (old_in (there i)) (new_in (there i)) (doing_at d' k tally) in
        changed_is w (work_at s work) r (doing_at d k tally) new d' (subst (λ t. written d t s.plan r new ≡ Ok d') own h.0) ∙ sym same

pub write_passes : (s s' : DmlState) (d d' : Data) (new : List Value) (r : Taken) (rest : List Taken) → IsBetween s r rest → (answer : DmlStep) → stepped s d (Some new) ≡ at answer s' d' → HasPassed s rest s'
write_passes s s' d d' new r rest b answer e = record { is = (after_row_is s s' d d' new r rest b.begun b.rest_is answer e).2 }

-- what is so whatever a call answers
pub whatever : {A E : Type 0} (r : Result A E) (Q : Type 0) → Q → OnOk r Q
whatever (Ok a) Q q = q
whatever (Err e) Q q = tt

-- ---- what is asked for between the rows, and what is left

module _ (now : Catalogue) (t : TxId) (changing : List Under) (first s : DmlState) (a b : List EditionView) (x y : Data) (own : first.tx ≡ t) (row : Row first s y)
    (left : (under : UnderChange) → Spares under t changing (first.plan.table.id ∷ []) → Remains now t under a x b y) where
  -- behind a step
  pub rows_stepped : (z : Data) → ((u : UnderChange) → u s.tx s.plan.table.id ≡ false → Leaves y s.tx u z) → AllStorable z → (under : UnderChange) → Spares under t changing (first.plan.table.id ∷ []) → Remains now t under a x b z
  rows_stepped z leaves all under spares =
      remains_then now t under a b b x y z (left under spares)
      (step_remains now t under b y z s changing first.plan.table.id spares (ap (λ (s : DmlState). s.tx) row.is ∙ own) (ap (λ (s : DmlState). s.plan.table.id) row.is) leaves all)

  -- a step, and bodies
  pub rows_triggered : (z : Data) → ((u : UnderChange) → u s.tx s.plan.table.id ≡ false → Leaves y s.tx u z) → AllStorable z → (e : List EditionView) (v : Data) → Remains now t (under_by changing) b z e v
      → (under : UnderChange) → Spares under t changing (first.plan.table.id ∷ []) → Remains now t under a x e v
  rows_triggered z leaves all e v r under spares = remains_then now t under a b e x z v (rows_stepped z leaves all under spares) (spared now t under changing (first.plan.table.id ∷ []) b e z v spares r)

-- A statement can go on, after the step before a row and after bodies.
pub can_still : (t : TxId) (changing : List Under) (first s s' : DmlState) (x y z : Data) (old new : List Value) → first.tx ≡ t → under_by changing t first.plan.table.id ≡ true → Row first s x → BeforeRow s s' x y old new → IsTop y t → CanStep y s' → Leaves y t (under_by changing) z → CanStep z s'
can_still t changing first s s' x y z old new own on row b top can leaves =
    let is : s' ≡ record first { rest = s.rest; begun = true; count = s.count } = b.standing ∙ ap (λ (s : DmlState). record s { begun = true }) row.is in
    can_go_on y z t (under_by changing) s' (ap (λ (s : DmlState). s.tx) is ∙ own) top (ap (λ (s : DmlState). under_by changing t s.plan.table.id) is ∙ on) can leaves

-- what stays of the statement before a row
pub same_plan : (first s s' : DmlState) (x y : Data) (old new : List Value) → Row first s x → BeforeRow s s' x y old new → s'.plan ≡ first.plan
same_plan first s s' x y old new row b = ap (λ (s : DmlState). s.plan) b.standing ∙ ap (λ (s : DmlState). s.plan) row.is

pub same_tx_now : (first s s' : DmlState) (x y : Data) (old new : List Value) → Row first s x → BeforeRow s s' x y old new → s'.tx ≡ first.tx
same_tx_now first s s' x y old new row b = ap (λ (s : DmlState). s.tx) b.standing ∙ ap (λ (s : DmlState). s.tx) row.is

-- a row has as many values as its table has columns
pub as_many : (s s' : DmlState) (x y : Data) (old new : List Value) → BeforeRow s s' x y old new → length new ≡ length s'.plan.table.columns
as_many s s' x y old new b = as_many_as_columns s.plan s.binds b.row new b.values ∙ sym (ap (λ (s : DmlState). length s.plan.table.columns) b.standing)
