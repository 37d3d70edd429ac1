-- The body of a trigger: what it runs with, what its asks are answered, and what it leaves.
-- Oracle Database PL/SQL Language Reference 19c, Correlation Names and Pseudorecords, and Restrictions on Trigger Bodies; Autonomous
-- Transactions. The limits of steps and of room are own.
use Rattle.std.specs.Prelude.{ℕ, zero, suc, ◌+◌, ◌-◌, ◌^◌, ◌==◌, Bool, if◌then◌else◌, List, [], ◌∷◌, ◌++◌, Option, Some, None, unwrap_or, slice_set, Result, Ok, Err}
use Rattle.std.specs.List.{last_or}
use Rattle.ebr_base.specs.declared.code.Code.{Code}
use Rattle.ebr_base.specs.declared.code.Code.TheVariants.{Ora, Ebr}
use Rattle.ebr_base.specs.declared.numbers.EditionNo.{EditionNo}
use Rattle.ebr_base.specs.declared.row.TxId.{TxId}
use Rattle.ebr_base.specs.declared.value.Value.{Value}
use Rattle.ebr_exprtree.specs.declared.op.Op.{Op}
use Rattle.ebr_exprtree.specs.declared.op.Op.TheVariants as op
use Rattle.ebr_ast.specs.declared.view.EditionView.{EditionView}
use Rattle.ebr_asks.specs.declared.ask.Ask.{Ask}
use Rattle.ebr_asks.specs.declared.ask.Ask.TheVariants as ask
use Rattle.ebr_asks.specs.declared.answer.Answer.{Answer}
use Rattle.ebr_tx.specs.Data.{Data}
use Rattle.ebr_tx.specs.Calls.{levels, top}
use Rattle.ebr_dml.specs.Rows.{values_at}
use Rattle.ebr_database.specs.Base.{Base, with_data}
use Rattle.ebr_database.specs.Database.{as_answer}
use Rattle.ebr_database.specs.Outcome.{Outcome, gives, and_then, then_run}
use Rattle.ebr_database.specs.Transact.{Done, commit, roll_back, savepoint, back_to, push, pop}
use Rattle.ebr_seats.specs.Ends.{closed_from_top}
use Rattle.ebr_exec.specs.Places.{Place, Under}
use Rattle.ebr_exec.specs.Statements.{Statements, refused}
use Rattle.ebr_run.specs.State.{Row}
use Rattle.ebr_run.specs.Run.{Run, Seen, RunStatus}
use Rattle.ebr_run.specs.Run.RunStatus.{Waiting, Returned, Raised}
use Rattle.ebr_bodies.specs.Ready.{Ready}

-- Where a statement stands between two bodies: the steps that they have made, the bytes of lines for which there is room, and the
-- lines that they have printed.
pub record Doing : Type 0 where
  pub base : Base
  pub steps : ℕ
  pub room : ℕ
  pub lines : List (List ℕ)

-- What the bodies of a statement's triggers stand on: what each edition sees; statements one level deeper; the transaction of the
-- statement; the tables that it and the statements around it are changing; the steps that its bodies may make together.
pub record Site : Type 0 where
  pub view : EditionNo → EditionView
  pub deeper : Statements
  pub tx : TxId
  pub changing : List Under
  pub left : ℕ

-- ---- what a body asks

-- no autonomous transaction is open above the statement's own
abbrev pub at_own : Site → Base → Bool
at_own w b = levels b.data_now w.tx.session == w.tx.depth

-- the transaction of a body's next ask
abbrev pub on_top : Site → Base → TxId
on_top w b = top b.data_now w.tx.session

-- where the statements of a body stand
abbrev pub place_in : Site → Ready → Base → Place
place_in w r b = record { edition = r.edition; origin = r.origin; tx = on_top w b; changing = w.changing }

abbrev pub answered : Outcome Base Done → Outcome Base Answer
answered o = record { state = o.state; made = o.made; asked = o.asked; value = as_answer o.value }

-- Inside an autonomous transaction the ask is for that one; outside, this code refuses it.
abbrev pub unless_own : Code → Site → Base → Outcome Base Done → Outcome Base Answer
unless_own code w b o = if at_own w b then gives b (refused code) else answered o

abbrev pub mutating_transaction : Code
mutating_transaction = Ora 4092

abbrev pub misplaced : Code
misplaced = Ebr 15

-- What an ask of a body is answered, when its run has so much room for lines. COMMIT, ROLLBACK and savepoints outside an autonomous
-- transaction are ORA-04092. No code of a body makes the asks that are EBR-0015.
abbrev pub serve : Site → Ready → ℕ → Ask → Base → Outcome Base Answer
serve w r room (ask.Sql s binds left) b = w.deeper (place_in w r b) s binds left room b
serve w r room ask.Commit b = unless_own mutating_transaction w b (commit (on_top w b) b)
serve w r room ask.Rollback b = unless_own mutating_transaction w b (roll_back (on_top w b) b)
serve w r room (ask.Savepoint name) b = unless_own mutating_transaction w b (savepoint (on_top w b) name b)
serve w r room (ask.BackTo name) b = unless_own mutating_transaction w b (back_to (on_top w b) name b)
serve w r room ask.PushAuto b = answered (push w.tx.session b)
serve w r room (ask.PopAuto failed) b = unless_own misplaced w b (pop w.tx.session failed b)
serve w r room q b = gives b (refused misplaced)

-- ---- a run with its answers

abbrev pub if_waiting : RunStatus → Option Ask → Option Ask
if_waiting Waiting q = q
if_waiting s q = None

-- the ask that a run waits with: the last that it made
abbrev pub next_ask : Seen → Option Ask
next_ask s = if_waiting s.standing (last_or None s.asks)

abbrev pub on_ask : Option Ask → Seen → Base → (Ask → Outcome Base Seen) → Outcome Base Seen
on_ask None s b k = gives b s
on_ask (Some q) s b k = k q

-- A run with at most so many answers more. It goes on with each answer from what the asks before it left.
abbrev pub served : ℕ → Site → Ready → (List Answer → Seen) → List Answer → Base → Outcome Base Seen
served zero w r run answers b = gives b (run answers)
served (suc n) w r run answers b =
    on_ask (next_ask (run answers)) (run answers) b (λ q.
    and_then (serve w r (run answers).room q b) (λ x b'. served n w r run (answers ++ x ∷ []) b'))

-- more asks than any run makes
unfoldable pub max_asks : ℕ
max_asks = 2 ^ 64 - 1

-- A body's end closes the autonomous transactions that it left open, and what they left is undone.
abbrev pub closed : Site → Data → Data
closed w d = closed_from_top (levels d w.tx.session - w.tx.depth) w.tx.session d

-- ---- a body

-- the values at these places are these
abbrev pub put : List ℕ → List Value → List Value → List Value
put (place ∷ places) (v ∷ values) row = put places values (slice_set row place v)
put places values row = row

-- what a body makes of the new row; that of a DELETE stays all NULL
abbrev pub row_left : Op → Ready → List Value → Option (List Value) → List Value
row_left op.Delete r new left = new
row_left o r new left = put r.places (unwrap_or left []) new

abbrev pub ended_by : RunStatus → List Value → Result (List Value) Code
ended_by Returned new = Ok new
ended_by (Raised code) new = Err code
ended_by Waiting new = Err (Ebr 0)

abbrev pub after_run : Site → Op → Ready → List Value → Doing → Seen → Base → Outcome Doing (Result (List Value) Code)
after_run w o r new σ s b =
    gives (record { base = with_data (closed w b.data_now) b; steps = σ.steps + s.steps; room = s.room; lines = σ.lines ++ s.lines })
    (ended_by s.standing (row_left o r new s.new))

-- the row as the body has it: `:OLD` and `:NEW`
abbrev pub row_for : Op → Ready → List Value → List Value → Row
row_for o r old new = record { op = o; old = values_at r.places old; new = values_at r.places new }

-- how the body's run goes
abbrev pub run_of : Site → Op → Ready → List Value → List Value → Doing → List Answer → Seen
run_of w o r old new σ answers =
    Run (w.view r.edition) r.tree [] [] (record { row = Some (row_for o r old new); room = σ.room }) (w.left - σ.steps) answers

-- The body of a trigger for a row: the new row that it leaves, or what it raised. It begins without packages.
abbrev pub body : Site → Op → Ready → List Value → List Value → Doing → Outcome Doing (Result (List Value) Code)
body w o r old new σ = and_then (served max_asks w r (run_of w o r old new σ) [] σ.base) (after_run w o r new σ)

-- Bodies one after the other, each with the new row that the one before left.
abbrev pub bodies : Site → Op → List Ready → List Value → List Value → Doing → Outcome Doing (Result (List Value) Code)
bodies w o [] old new σ = gives σ (Ok new)
bodies w o (r ∷ rest) old new σ = then_run (body w o r old new σ) (λ new' σ'. bodies w o rest old new' σ')
