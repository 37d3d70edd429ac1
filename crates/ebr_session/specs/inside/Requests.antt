-- What the pieces of a script ask, and what is done with the answers.
use Rattle.std.specs.Prelude.{ℕ, ◌≡◌, ◌≤◌, true, codes, All, List, [], ◌∷◌, length, Some}
use Rattle.ebr_base.specs.Code.{code_text}
use Rattle.ebr_ast.specs.declared.definition.Statement.{Statement}
use Rattle.ebr_ast.specs.declared.definition.Statement.TheVariants as statement
use Rattle.ebr_asks.specs.declared.ask.Ask.{Ask}
use Rattle.ebr_asks.specs.declared.ask.Ask.TheVariants as ask
use Rattle.ebr_asks.specs.declared.answer.Answer.{Answer}
use Rattle.ebr_asks.specs.declared.answer.Answer.TheVariants as answer
use Rattle.ebr_script.specs.declared.piece.Piece.{Piece}
use Rattle.ebr_script.specs.Pieces.{CreatesObject, KeepsText, LiesWithin, stored_definition}
use Rattle.ebr_run.specs.Packages.{PackageState}
use Rattle.ebr_calls.specs.Steps.{State, Step, asked, block_behind, closing, ending, leaving, line_of, printing, printing_result, then_run}
use Rattle.ebr_session.specs.declared.after.Said.{Said}
use Rattle.ebr_session.specs.declared.after.Said.TheVariants as said
use Rattle.ebr_session.specs.declared.after.After.{After}
use Rattle.ebr_session.specs.declared.after.After.TheVariants as after
use Rattle.ebr_session.specs.declared.after.Request.{Request}
use Rattle.ebr_session.specs.declared.script.Turn.{Turn}
use Rattle.ebr_session.specs.declared.script.Turn.TheVariants as turn
use Rattle.ebr_session.specs.Has.{IsFit, most_bytes}
use Rattle.ebr_session.specs.Sessions.{printing_edition, run_pieces}

abbrev pub text_said : Said → List ℕ
text_said said.Nothing = []
text_said said.Fine = codes "OK"
text_said (said.Code c) = code_text c

abbrev pub behind : After → Answer → Step
behind (after.Print s) = printing_result (text_said s)
behind after.SetEdition = printing_edition
behind (after.Begin b) = block_behind b
behind (after.Close n c) = λ x. closing n (ending true (code_text c))

-- the states of packages behind the answer to SET EDITION
abbrev pub packages_behind : Answer → List PackageState → List PackageState
packages_behind answer.Done packages = []
packages_behind x packages = packages

-- It is not Leave.
abbrev pub Stays : Ask → Type 0
Stays ask.Leave = ⊥
Stays q = Unit {0}

-- The step makes this request.
pub record AsksBy (r : Request) (step : Step) : Type 0 where
  pub fit : IsFit r.ask
  pub stays : Stays r.ask
  pub is : (σ : State) → step σ ≡ asked r.ask (behind r.after) σ

-- what a piece does, if there is one
abbrev pub IsTurn : Turn → Step → Type 0
IsTurn (turn.Asks r) step = AsksBy r step
IsTurn (turn.Prints c) step = (σ : State) → step σ ≡ printing (line_of (code_text c)) σ
IsTurn turn.Ends step = ⊥

-- The text of a statement that creates an object spells that creation.
abbrev pub KeepsSpelled : Statement → List ℕ → Type 0
KeepsSpelled (statement.Definition d) text = CreatesObject d → stored_definition text ≡ Some d
KeepsSpelled s text = Unit {0}

-- ---- scripts

-- a script, and those of its pieces that are still to run
pub record Reading : Type 0 where
  pub script : List ℕ
  pub left : List Piece

pub record IsRead (script : List ℕ) (left : List Piece) : Type 0 where
  pub small : length script ≤ most_bytes
  pub within : All (LiesWithin script) left
  pub texts : All (KeepsText script) left

abbrev pub rest_of : Reading → Step
rest_of r = run_pieces r.script r.left

-- The next piece was taken.
pub record TakesPiece (t : Turn) (old new : Reading) : Type 0 where
  pub piece : Piece
  pub left : old.left ≡ piece ∷ new.left
  pub step : Step
  pub turn : IsTurn t step
  pub is : (σ : State) → rest_of old σ ≡ then_run (step σ) (rest_of new)

abbrev pub Takes : Turn → Reading → Reading → Type 0
Takes turn.Ends old new = (σ : State) → rest_of old σ ≡ leaving σ
Takes t old new = TakesPiece t old new
