-- What the calls between a statement and its bodies answer.
use Rattle.std.specs.Prelude.{◌≡◌, ◌+◌, ◌++◌, List, Result, Ok, Err}
use Rattle.ebr_base.specs.declared.code.Code.{Code}
use Rattle.ebr_base.specs.declared.code.Stop.{Stop}
use Rattle.ebr_base.specs.declared.code.Stop.TheVariants.{Raised}
use Rattle.ebr_base.specs.declared.code.Stop.TheVariants as stop
use Rattle.ebr_base.specs.declared.numbers.TableId.{TableId}
use Rattle.ebr_base.specs.declared.value.Value.{Value}
use Rattle.ebr_asks.specs.declared.answer.Answer.{Answer}
use Rattle.ebr_asks.specs.declared.answer.Answer.TheVariants as answer
use Rattle.ebr_tx.specs.Data.{Data}
use Rattle.ebr_dml.specs.declared.step.DmlStep.{DmlStep}
use Rattle.ebr_dml.specs.Steps.{DmlState, Stepped}
use Rattle.ebr_database.specs.declared.failure.Failure.{Failure}
use Rattle.ebr_database.specs.declared.failure.Failure.TheVariants.{Refused, Halted}
use Rattle.ebr_database.specs.declared.failure.Halt.{Halt}
use Rattle.ebr_database.specs.declared.failure.Halt.TheVariants.{NoMemory}
use Rattle.ebr_exec.specs.Statements.{refused}
use Rattle.ebr_exprtree.specs.declared.op.Op.{Op}
use Rattle.ebr_machine.specs.declared.machine.Machine.{Machine}
use Rattle.ebr_machine.specs.declared.next.End.{End}
use Rattle.ebr_machine.specs.Has.{new_row_of, standing_of_end}
use Rattle.ebr_bodies.specs.Bodies.{ended_by, row_left}
use Rattle.ebr_bodies.specs.Ready.{Ready}
use Rattle.ebr_statements.specs.declared.tally.Tally.{Tally}

abbrev pub as_failure : Stop → Failure
as_failure (Raised code) = Refused code
as_failure stop.NoMemory = Halted NoMemory

-- the answer that refuses a statement before it begins
abbrev pub as_refusal : Stop → Result Answer Halt
as_refusal (Raised code) = Ok (refused code)
as_refusal stop.NoMemory = Err NoMemory

-- that which refuses a change, with what its bodies have done
abbrev pub as_refused : Failure → Tally → Result Answer Halt
as_refused (Refused code) tally = Ok (answer.Refused code tally.steps tally.lines)
as_refused (Halted why) tally = Err why

-- tests that nothing refuses, or the code of the first that does
abbrev pub Tests : Result (List TableId) Stop → Result (Unit {0}) Code → Type 0
Tests (Ok tables) defined = defined ≡ Ok tt
Tests (Err (Raised code)) defined = defined ≡ Err code
Tests (Err stop.NoMemory) defined = Unit {0}

-- a step of the rows
abbrev pub Steps : Result DmlStep Failure → DmlState → Data → Result Stepped Code → Type 0
Steps (Ok step) s d defined = defined ≡ Ok (record { answer = step; standing = s; data_after = d })
Steps (Err (Refused code)) s d defined = defined ≡ Err code
Steps (Err (Halted why)) s d defined = why ≡ NoMemory

-- how a body ends
abbrev pub IsEnd : Result (List Value) Failure → Result (List Value) Code → Type 0
IsEnd (Ok row) defined = defined ≡ Ok row
IsEnd (Err (Refused code)) defined = defined ≡ Err code
IsEnd (Err (Halted why)) defined = why ≡ NoMemory

-- What its run has done is counted.
pub record IsCounted (m : Machine) (old new : Tally) : Type 0 where
  pub steps : new.steps ≡ old.steps + m.inner.steps
  pub room : new.room ≡ m.inner.room
  pub lines : new.lines ≡ old.lines ++ m.inner.lines

abbrev pub Counts : Result (List Value) Failure → Machine → Tally → Tally → Type 0
Counts (Ok row) m old new = IsCounted m old new
Counts (Err (Refused code)) m old new = IsCounted m old new
Counts (Err (Halted why)) m old new = Unit {0}

-- what a body leaves, however its asks have ended
abbrev pub Finishes : Result End Halt → Result (List Value) Failure → Machine → Op → Ready → List Value → Tally → Tally → Type 0
Finishes (Ok end) r m o t new before now = IsEnd r (ended_by (standing_of_end end) (row_left o t new (new_row_of m))) × Counts r m before now
Finishes (Err why) r m o t new before now = r ≡ Err (Halted why)
