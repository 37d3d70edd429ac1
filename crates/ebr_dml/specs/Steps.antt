-- A statement row by row, so that triggers come between: each row is given once before its BEFORE triggers and once before its
-- AFTER triggers.
use Rattle.std.specs.Prelude.{◌≡◌, ℕ, ◌+◌, Bool, true, false, List, [], ◌∷◌, is_some, Option, unwrap_or, Result, Ok, Err, IfSome, All}
use Rattle.ebr_base.specs.declared.code.Code.{Code}
use Rattle.ebr_base.specs.declared.code.Stop.{Stop}
use Rattle.ebr_base.specs.declared.code.Stop.TheVariants.{Raised, NoMemory}
use Rattle.ebr_base.specs.declared.numbers.RowNo.{RowNo}
use Rattle.ebr_base.specs.declared.numbers.TableId.{TableId}
use Rattle.ebr_base.specs.declared.row.TxId.{TxId}
use Rattle.ebr_base.specs.declared.table.TableDef.{TableDef}
use Rattle.ebr_base.specs.declared.value.Value.{Value}
use Rattle.ebr_ast.specs.declared.sql.SqlTree.{SqlTree}
use Rattle.ebr_ast.specs.declared.view.EditionView.{EditionView}
use Rattle.ebr_sqlcheck.specs.Checked.{on}
use Rattle.ebr_versions.specs.Keys.{row_in}
use Rattle.ebr_tx.specs.declared.savepoints.TxMark.{TxMark}
use Rattle.ebr_tx.specs.Data.{Data, IsLive, own, names_of}
use Rattle.ebr_tx.specs.Reads.{Sees}
use Rattle.ebr_tx.specs.Calls.{IsKnown, IsMarkOf}
use Rattle.ebr_dml.specs.declared.plan.Plan.{Plan}
use Rattle.ebr_dml.specs.declared.step.DmlStep.{DmlStep}
use Rattle.ebr_dml.specs.declared.step.DmlStep.TheVariants.{Before, After, Finished}
use Rattle.ebr_dml.specs.declared.taken.Taken.{Taken}
use Rattle.ebr_dml.specs.Plans.{plan_of}
use Rattle.ebr_dml.specs.Rows.{rows_of}
use Rattle.ebr_dml.specs.Images.{old_values, new_values, after_values}
use Rattle.ebr_dml.specs.Tests.{written}

-- Where a statement stands between two steps: what it does, in which transaction, with which binds; the rows to come, with
-- their values as they were seen at its start, or the code that WHERE raised; whether the first of them has been given to its
-- BEFORE triggers; and how many rows it has changed.
pub record DmlState : Type 0 where
  pub plan : Plan
  pub tx : TxId
  pub binds : List Value
  pub rest : Result (List Taken) Code
  pub begun : Bool
  pub count : ℕ

abbrev pub first_dml : TxId → List Value → Plan → Result (List Taken) Code → DmlState
first_dml t binds p rows = record { plan = p; tx = t; binds = binds; rest = rows; begun = false; count = 0 }

-- What starts in a transaction, against what an edition sees, with these binds. The code that WHERE raises is told by the first
-- step.
abbrev pub started : Data → TxId → EditionView → SqlTree → List Value → Result DmlState Code
started d t v s binds = on (λ p. on (λ rows. Ok (first_dml t binds p rows)) (rows_of d t s p binds)) (plan_of v s)

-- what a step answers, where the statement stands after it, and the data then
pub record Stepped : Type 0 where
  pub answer : DmlStep
  pub standing : DmlState
  pub data_after : Data

-- a row before its BEFORE triggers
abbrev pub before_row : DmlState → Data → Taken → Result Stepped Code
before_row s d r =
    on (λ new. Ok (record { answer = Before (old_values s.plan r) new; standing = record s { begun = true }; data_after = d }))
    (new_values s.plan s.binds r)

-- a row with the values that its BEFORE triggers left: it is changed, and given to its AFTER triggers
abbrev pub after_row : DmlState → Data → Taken → List Taken → List Value → Result Stepped Code
after_row s d r rest new =
    on (λ d'. Ok (record {
      answer = After (old_values s.plan r) (after_values s.plan new);
      standing = record s { rest = Ok rest; begun = false; count = s.count + 1 };
      data_after = d';
    })) (written d s.tx s.plan r new)

abbrev pub row_step : Bool → DmlState → Data → Taken → List Taken → List Value → Result Stepped Code
row_step false s d r rest new = before_row s d r
row_step true s d r rest new = after_row s d r rest new

abbrev pub next_step : DmlState → Data → List Taken → List Value → Result Stepped Code
next_step s d [] new = Ok (record { answer = Finished s.count; standing = s; data_after = d })
next_step s d (r ∷ rest) new = row_step s.begun s d r rest new

-- The next step, with what the BEFORE triggers left, which counts where a row was given to them.
abbrev pub stepped : DmlState → Data → Option (List Value) → Result Stepped Code
stepped s d after = on (λ rows. next_step s d rows (unwrap_or after [])) s.rest

-- ---- what a call says of it

-- The step answers what is defined, or refuses with the code that is defined; want of memory alone is free.
abbrev pub Gives : Result DmlStep Stop → DmlState → Data → Result Stepped Code → Type 0
Gives (Ok answer) s d defined = defined ≡ Ok (record { answer = answer; standing = s; data_after = d })
Gives (Err (Raised code)) s d defined = defined ≡ Err code
Gives (Err NoMemory) s d defined = Unit {0}

-- What stays, whatever a step answers: which transactions are live, the beginning of this one, the tables, and its marks.
pub record Stays (before : Data) (t : TxId) (after : Data) : Type 0 where
  pub names : names_of after.live ≡ names_of before.live
  pub begun : (own after t).begun ≡ (own before t).begun
  pub tables : after.tables ≡ before.tables
  pub marks : (m : TxMark) → IsMarkOf before t m → IsMarkOf after t m

-- the tables of an edition were added with their keys
abbrev pub AreKnown : Data → List TableDef → Type 0
AreKnown d tables = All (IsKnown d) tables

-- the transaction sees each of these rows of a table that has a number
abbrev pub IsSeen : Data → TxId → TableId → Option RowNo → Type 0
IsSeen d t table row = IfSome row (λ n. is_some (Sees d t (row_in table n)) ≡ true)

abbrev pub AreSeen : Data → TxId → TableId → List Taken → Type 0
AreSeen d t table [] = Unit {0}
AreSeen d t table (r ∷ rest) = IsSeen d t table r.row × AreSeen d t table rest

abbrev pub RestSeen : Data → TxId → TableId → Result (List Taken) Code → Type 0
RestSeen d t table (Ok rows) = AreSeen d t table rows
RestSeen d t table (Err code) = Unit {0}

-- A statement can go on: its transaction is live and has begun, its table was added with its key, and the transaction still sees
-- the rows that are to come.
pub record CanStep (d : Data) (s : DmlState) : Type 0 where
  pub live : IsLive d s.tx
  pub begun : is_some (own d s.tx).begun ≡ true
  pub known : IsKnown d s.plan.table
  pub seen : RestSeen d s.tx s.plan.table.id s.rest
