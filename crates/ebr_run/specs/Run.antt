-- What a run of a unit does.
use Rattle.std.specs.Prelude.{ℕ, List, [], Option, Some, None, option_map}
use Rattle.ebr_base.specs.declared.code.Code.{Code}
use Rattle.ebr_base.specs.declared.value.Value.{Value}
use Rattle.ebr_ast.specs.declared.unit.UnitTree.{UnitTree}
use Rattle.ebr_ast.specs.declared.view.EditionView.{EditionView}
use Rattle.ebr_asks.specs.declared.ask.Ask.{Ask}
use Rattle.ebr_asks.specs.declared.answer.Answer.{Answer}
use Rattle.ebr_run.specs.Faults.{final_code}
use Rattle.ebr_run.specs.Packages.{PackageState}
use Rattle.ebr_run.specs.State as run
use Rattle.ebr_run.specs.State.{State, Outcome, Row, broken}
use Rattle.ebr_run.specs.Calls.{Part, Parts, entered, calls_of, fresh}
use Rattle.ebr_run.specs.Units.{part_at, parts_of}

-- what a run begins with: the row of a trigger's body, and the bytes of lines for which there is room
pub record Frame : Type 0 where
  pub row : Option Row
  pub room : ℕ

-- How a run stands: it waits for an answer to its last ask, or it has ended.
pub data RunStatus : Type 0 where
  Waiting : RunStatus
  Returned : RunStatus
  Raised : Code → RunStatus

-- what is seen of a run
pub record Seen : Type 0 where
  pub asks : List Ask
  pub lines : List (List ℕ)
  pub steps : ℕ
  pub packages : List PackageState
  pub new : Option (List Value)
  pub room : ℕ  -- how many bytes of lines there may still be
  pub standing : RunStatus

abbrev pub standing : run.End → RunStatus
standing run.Waiting = Waiting
standing (run.Raised f) = Raised (final_code f)
standing (run.Stopped c) = Raised c
standing e = Returned

abbrev pub new_of : Row → List Value
new_of r = r.new

abbrev pub seen : Outcome → Seen
seen o = record {
  asks = o.state.asks;
  lines = o.state.lines;
  steps = o.state.steps;
  packages = o.state.packages;
  new = option_map new_of o.state.row;
  room = o.state.room;
  standing = standing o.end;
}

abbrev pub start : List PackageState → Frame → ℕ → List Answer → State
start packages frame left answers = record {
  memory = fresh [];
  packages = packages;
  row = frame.row;
  affected = None;
  lines = [];
  room = frame.room;
  asks = [];
  steps = 0;
  left = left;
  answers = answers;
}

-- a part runs from its beginning
abbrev pub run_part : Option Part → Parts → List Value → State → Outcome
run_part None parts arguments σ = broken σ
run_part (Some p) parts arguments σ = entered p (calls_of parts) arguments σ

-- What a block, a procedure, a function or a trigger's body does in an edition, with these arguments, states of packages,
-- steps left and answers.
unfoldable pub Run : EditionView → UnitTree → List Value → List PackageState → Frame → ℕ → List Answer → Seen
Run v u arguments packages frame left answers = seen (run_part (part_at v u 0) (parts_of v) arguments (start packages frame left answers))
