-- The steps of a statement's rows.
use Rattle.std.proofs.Common.{◌≡◌, ℕ, ◌+◌, ◌⊎◌, inl, inr, Bool, true, false, List, [], ◌∷◌, length, Option, Some, None, Result, Ok, Err, refl, sym, ap, subst, ◌∙◌, arith}
use Rattle.std.specs.Prelude.{unwrap_or, OnErr}
use Rattle.ebr_base.specs.declared.code.Code.{Code}
use Rattle.ebr_base.specs.declared.code.Stop.{Stop}
use Rattle.ebr_base.specs.declared.code.Stop.TheVariants.{Raised, NoMemory}
use Rattle.ebr_base.specs.declared.value.Value.{Value}
use Rattle.ebr_sqlcheck.specs.Checked.{on}
use Rattle.ebr_tx.specs.Data.{Data}
use Rattle.ebr_dml.specs.declared.step.DmlStep.{DmlStep}
use Rattle.ebr_dml.specs.declared.step.DmlStep.TheVariants.{Before, After, Finished}
use Rattle.ebr_dml.specs.declared.taken.Taken.{Taken}
use Rattle.ebr_dml.specs.Images.{old_values, new_values, after_values}
use Rattle.ebr_dml.specs.Steps.{Gives, DmlState, Stepped, before_row, row_step, next_step, stepped}
use Rattle.ebr_dml.specs.Tests.{written}
use Rattle.ebr_database.specs.Storable.{AllStorable}
use Rattle.ebr_exec.specs.Narrow.{IsNarrow}
use Rattle.ebr_exec.proofs.Fits.{written_storable}
use Rattle.ebr_statements.specs.inside.Answered.{Steps, as_failure}

abbrev pub at : DmlStep → DmlState → Data → Result Stepped Code
at a s d = Ok (record { answer = a; standing = s; data_after = d })

abbrev answer_or : DmlStep → Result Stepped Code → DmlStep
answer_or a (Ok x) = x.answer
answer_or a (Err code) = a

abbrev standing_or : DmlState → Result Stepped Code → DmlState
standing_or s (Ok x) = x.standing
standing_or s (Err code) = s

abbrev data_or : Data → Result Stepped Code → Data
data_or d (Ok x) = x.data_after
data_or d (Err code) = d

abbrev code_or : Code → Result Stepped Code → Code
code_or c (Ok x) = c
code_or c (Err code) = code

abbrev pub old_in : DmlStep → List Value
old_in (Before o n) = o
old_in (After o n) = o
old_in (Finished n) = []

abbrev pub new_in : DmlStep → List Value
new_in (Before o n) = n
new_in (After o n) = n
new_in (Finished n) = []

abbrev count_in : DmlStep → ℕ
count_in (Finished n) = n
count_in step = 0

-- which variant it is
abbrev pub kind : DmlStep → ℕ
kind (Before o n) = 0
kind (After o n) = 1
kind (Finished n) = 2

abbrev kind_in : Result Stepped Code → ℕ
kind_in (Ok x) = kind x.answer
kind_in (Err code) = 3

none : DmlStep
none = Finished 0

-- A row was given to its BEFORE triggers.
pub record BeforeRow (s s' : DmlState) (d d' : Data) (old new : List Value) : Type 0 where
  pub row : Taken
  pub rest : List Taken
  pub rest_is : s.rest ≡ Ok (row ∷ rest)
  pub values : new_values s.plan s.binds row ≡ Ok new
  pub old_is : old ≡ old_values s.plan row
  pub standing : s' ≡ record s { begun = true }
  pub same : d' ≡ d

-- No row is left.
pub record NoRow (s s' : DmlState) (d d' : Data) (n : ℕ) : Type 0 where
  pub rest_is : s.rest ≡ Ok []
  pub count : n ≡ s.count
  pub same : d' ≡ d

-- An expression of the next row raises a code.
pub record RowRaises (s : DmlState) (code : Code) : Type 0 where
  pub row : Taken
  pub rest : List Taken
  pub rest_is : s.rest ≡ Ok (row ∷ rest)
  pub values : new_values s.plan s.binds row ≡ Err code

module _ (s s' : DmlState) (d d' : Data) (between : s.begun ≡ false) where
  abbrev rest_step : Result (List Taken) Code → Result Stepped Code
  rest_step rest = on (λ rows. next_step s d rows []) rest

  as_before : (r : Taken) (rows : List Taken) → row_step s.begun s d r rows [] ≡ before_row s d r
  as_before r rows = ap (λ b. row_step b s d r rows []) between

  abbrev given : Taken → Result (List Value) Code → Result Stepped Code
  given r v = on (λ new. at (Before (old_values s.plan r) new) (record s { begun = true }) d) v

  pub before : (old new : List Value) → stepped s d None ≡ at (Before old new) s' d' → BeforeRow s s' d d' old new
  before old new e = by s.rest refl e
    where
      values_of : (r : Taken) (rows : List Taken) (v : Result (List Value) Code) → s.rest ≡ Ok (r ∷ rows) → new_values s.plan s.binds r ≡ v → given r v ≡ at (Before old new) s' d' → BeforeRow s s' d d' old new
      values_of r rows (Ok x) rest is e = record {
        row = r;
        rest = rows;
        rest_is = rest;
        values = is ∙ ap (λ (y : Result Stepped Code). Ok (new_in (answer_or none y))) e;
        old_is = sym (ap (λ (y : Result Stepped Code). old_in (answer_or none y)) e);
        standing = sym (ap (standing_or s) e);
        same = sym (ap (data_or d) e);
      }
      values_of r rows (Err code) rest is e = absurd cc

      by : (rest : Result (List Taken) Code) → s.rest ≡ rest → rest_step rest ≡ at (Before old new) s' d' → BeforeRow s s' d d' old new
      by (Err code) is e = absurd cc
      by (Ok []) is e = let k : 2 ≡ 0 = ap kind_in e in absurd (omega (arith, k))
      by (Ok (r ∷ rows)) is e = values_of r rows (new_values s.plan s.binds r) is refl (sym (as_before r rows) ∙ e)

  pub finished : (n : ℕ) → stepped s d None ≡ at (Finished n) s' d' → NoRow s s' d d' n
  finished n e = by s.rest refl e
    where
      not_given : (r : Taken) (v : Result (List Value) Code) → given r v ≡ at (Finished n) s' d' → ⊥
      not_given r (Ok x) e = let k : 0 ≡ 2 = ap kind_in e in omega (arith, k)
      not_given r (Err code) e = cc

      by : (rest : Result (List Taken) Code) → s.rest ≡ rest → rest_step rest ≡ at (Finished n) s' d' → NoRow s s' d d' n
      by (Err code) is e = absurd cc
      by (Ok []) is e = record {
        rest_is = is;
        count = sym (ap (λ (y : Result Stepped Code). count_in (answer_or none y)) e);
        same = sym (ap (data_or d) e);
      }
      by (Ok (r ∷ rows)) is e = absurd (not_given r (new_values s.plan s.binds r) (sym (as_before r rows) ∙ e))

  pub no_after : (old new : List Value) → stepped s d None ≡ at (After old new) s' d' → ⊥
  no_after old new e = by s.rest e
    where
      not_given : (r : Taken) (v : Result (List Value) Code) → given r v ≡ at (After old new) s' d' → ⊥
      not_given r (Ok x) e = let k : 0 ≡ 1 = ap kind_in e in omega (arith, k)
      not_given r (Err code) e = cc

      by : (rest : Result (List Taken) Code) → rest_step rest ≡ at (After old new) s' d' → ⊥
      by (Err code) e = cc
      by (Ok []) e = let k : 2 ≡ 1 = ap kind_in e in omega (arith, k)
      by (Ok (r ∷ rows)) e = not_given r (new_values s.plan s.binds r) (sym (as_before r rows) ∙ e)

  pub refused : (code : Code) → stepped s d None ≡ Err code → (s.rest ≡ Err code) ⊎ RowRaises s code
  refused code e = by s.rest refl e
    where
      raised : (r : Taken) (rows : List Taken) (v : Result (List Value) Code) → s.rest ≡ Ok (r ∷ rows) → new_values s.plan s.binds r ≡ v → given r v ≡ Err code → RowRaises s code
      raised r rows (Ok x) rest is e = absurd cc
      raised r rows (Err c) rest is e = record { row = r; rest = rows; rest_is = rest; values = is ∙ ap (λ (y : Result Stepped Code). Err (code_or c y)) e }

      by : (rest : Result (List Taken) Code) → s.rest ≡ rest → rest_step rest ≡ Err code → (s.rest ≡ Err code) ⊎ RowRaises s code
      by (Err c) is e = inl (is ∙ ap (λ (y : Result Stepped Code). Err (code_or c y)) e)
      by (Ok []) is e = absurd cc
      by (Ok (r ∷ rows)) is e = inr (raised r rows (new_values s.plan s.binds r) is refl (sym (as_before r rows) ∙ e))

module _ (s s' : DmlState) (d d' : Data) (new : List Value) (r : Taken) (rows : List Taken) (begun : s.begun ≡ true) (rest : s.rest ≡ Ok (r ∷ rows)) where
  abbrev passed : DmlState
  passed = record s { rest = Ok rows; begun = false; count = s.count + 1 }

  abbrev shown_after : Result Data Code → Result Stepped Code
  shown_after x = on (λ y. at (After (old_values s.plan r) (after_values s.plan new)) passed y) x

  second : stepped s d (Some new) ≡ shown_after (written d s.tx s.plan r new)
  second = ap (λ x. on (λ list. next_step s d list new) x) rest ∙ ap (λ b. row_step b s d r rows new) begun

  -- It was changed, and is given to its AFTER triggers.
  pub after_row_is : (answer : DmlStep) → stepped s d (Some new) ≡ at answer s' d'
      → (written d s.tx s.plan r new ≡ Ok d') × (answer ≡ After (old_values s.plan r) (after_values s.plan new)) × (s' ≡ passed)
  after_row_is answer e = by (written d s.tx s.plan r new) refl (sym second ∙ e)
    where
      by : (x : Result Data Code) → written d s.tx s.plan r new ≡ x → shown_after x ≡ at answer s' d'
          → (written d s.tx s.plan r new ≡ Ok d') × (answer ≡ After (old_values s.plan r) (after_values s.plan new)) × (s' ≡ passed)
      by (Ok y) is e = (is ∙ ap (λ (z : Result Stepped Code). Ok (data_or y z)) e, sym (ap (answer_or answer) e), sym (ap (standing_or s) e))
      by (Err code) is e = absurd cc

  pub after_row_refused : (code : Code) → stepped s d (Some new) ≡ Err code → written d s.tx s.plan r new ≡ Err code
  after_row_refused code e = by (written d s.tx s.plan r new) refl (sym second ∙ e)
    where
      by : (x : Result Data Code) → written d s.tx s.plan r new ≡ x → shown_after x ≡ Err code → written d s.tx s.plan r new ≡ Err code
      by (Ok y) is e = absurd cc
      by (Err c) is e = is ∙ ap (λ (z : Result Stepped Code). Err (code_or c z)) e

-- ---- what stays of a statement, and of the data, at a step

abbrev Alike : DmlState → Result Stepped Code → Type 0
Alike s (Ok x) = (x.standing.plan ≡ s.plan) × (x.standing.tx ≡ s.tx)
Alike s (Err code) = Unit {0}

module _ (s : DmlState) (d : Data) where
  step_alike : (after : Option (List Value)) → Alike s (stepped s d after)
  step_alike after = by s.rest
    where
      given : (r : Taken) (v : Result (List Value) Code) → Alike s (on (λ new. at (Before (old_values s.plan r) new) (record s { begun = true }) d) v)
      given r (Ok new) = (refl, refl)
      given r (Err code) = tt

      behind : (r : Taken) (rows : List Taken) (new : List Value) (w : Result Data Code)
          → Alike s (on (λ d'. at (After (old_values s.plan r) (after_values s.plan new)) (record s { rest = Ok rows; begun = false; count = s.count + 1 }) d') w)
      behind r rows new (Ok d') = (refl, refl)
      behind r rows new (Err code) = tt

      row : (b : Bool) (r : Taken) (rows : List Taken) (new : List Value) → Alike s (row_step b s d r rows new)
      row false r rows new = given r (new_values s.plan s.binds r)
      row true r rows new = behind r rows new (written d s.tx s.plan r new)

      by : (rest : Result (List Taken) Code) → Alike s (on (λ rows. next_step s d rows (unwrap_or after [])) rest)
      by (Ok []) = (refl, refl)
      by (Ok (r ∷ rows)) = row s.begun r rows (unwrap_or after [])
      by (Err code) = tt

  pub step_same : (after : Option (List Value)) (answer : DmlStep) (s' : DmlState) (d' : Data) → stepped s d after ≡ at answer s' d' → (s'.plan ≡ s.plan) × (s'.tx ≡ s.tx)
  step_same after answer s' d' e = subst (Alike s) e (step_alike after)

abbrev StaysStorable : Result Stepped Code → Type 0
StaysStorable (Ok x) = AllStorable x.data_after
StaysStorable (Err code) = Unit {0}

module _ (s : DmlState) (d : Data) (all : AllStorable d) (narrow : IsNarrow s.plan.table) (after : Option (List Value)) (as_many : s.begun ≡ true → length (unwrap_or after []) ≡ length s.plan.table.columns) where
  step_stores : StaysStorable (stepped s d after)
  step_stores = by s.rest
    where
      given : (r : Taken) (v : Result (List Value) Code) → StaysStorable (on (λ new. at (Before (old_values s.plan r) new) (record s { begun = true }) d) v)
      given r (Ok new) = all
      given r (Err code) = tt

      behind : (r : Taken) (rows : List Taken) (w : Result Data Code) → written d s.tx s.plan r (unwrap_or after []) ≡ w → s.begun ≡ true
          → StaysStorable (on (λ d'. at (After (old_values s.plan r) (after_values s.plan (unwrap_or after []))) (record s { rest = Ok rows; begun = false; count = s.count + 1 }) d') w)
      behind r rows (Ok d') is begun = written_storable d d' s.tx all s.plan r (unwrap_or after []) (as_many begun) narrow is
      behind r rows (Err code) is begun = tt

      row : (b : Bool) (r : Taken) (rows : List Taken) → s.begun ≡ b → StaysStorable (row_step b s d r rows (unwrap_or after []))
      row false r rows is = given r (new_values s.plan s.binds r)
      row true r rows is = behind r rows (written d s.tx s.plan r (unwrap_or after [])) refl is

      by : (rest : Result (List Taken) Code) → StaysStorable (on (λ rows. next_step s d rows (unwrap_or after [])) rest)
      by (Ok []) = all
      by (Ok (r ∷ rows)) = row s.begun r rows refl
      by (Err code) = tt

  -- whatever it answers
  pub step_storable : (r : Result DmlStep Stop) (s' : DmlState) (d' : Data) → Gives r s' d' (stepped s d after) → OnErr r (d' ≡ d) → AllStorable d'
  step_storable (Ok answer) s' d' gives same = subst StaysStorable gives step_stores
  step_storable (Err stop) s' d' gives same = subst AllStorable (sym same) all

pub step_refused : (stop : Stop) (s : DmlState) (d : Data) (defined : Result Stepped Code) → Gives (Err stop) s d defined → Steps (Err (as_failure stop)) s d defined
step_refused (Raised code) s d defined h = h
step_refused NoMemory s d defined h = refl

-- where a row is between its triggers, its change comes next
pub no_other : (s s' : DmlState) (d d' : Data) (new : List Value) (r : Taken) (rows : List Taken) (begun : s.begun ≡ true) (rest : s.rest ≡ Ok (r ∷ rows)) (answer : DmlStep)
    → stepped s d (Some new) ≡ at answer s' d' → kind answer ≡ 1
no_other s s' d d' new r rows begun rest answer e = ap kind (after_row_is s s' d d' new r rows begun rest answer e).1
