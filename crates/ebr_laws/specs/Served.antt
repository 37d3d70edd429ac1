-- Books that have the code of what an edition sees.
use Rattle.std.specs.Prelude.{◌≡◌, ℕ, List, length, option_map}
use Rattle.ebr_base.specs.declared.object.ObjectKey.{ObjectKey}
use Rattle.ebr_base.specs.declared.value.Value.{Value}
use Rattle.ebr_ast.specs.declared.unit.UnitTree.{UnitTree}
use Rattle.ebr_ast.specs.declared.view.EditionView.{EditionView}
use Rattle.ebr_asks.specs.declared.answer.Answer.{Answer}
use Rattle.ebr_run.specs.Packages.{PackageState}
use Rattle.ebr_run.specs.Units.{valid_unit, stamp_in}
use Rattle.ebr_run.specs.Run.{Frame, Run}
use Rattle.ebr_code.specs.Books.{Book}
use Rattle.ebr_code.specs.Runs.{RunCode}
use Rattle.ebr_code.specs.Units.{unit_code}

-- A book answers the code of each unit that is visible and valid, the stamp of each visible object, and how many there are.
pub record HasCodeOf (v : EditionView) (book : Book) : Type 0 where
  pub unit : (key : ObjectKey) → book.unit key ≡ option_map (unit_code v) (valid_unit v key)
  pub stamp : (key : ObjectKey) → book.stamp key ≡ stamp_in v key
  pub objects : book.objects ≡ length v.objects

-- What the code of a unit does is what the unit does, with any arguments, states of packages, steps left and answers.
abbrev pub DoesTheSame : EditionView → Book → UnitTree → Type 0
DoesTheSame v book u =
    (arguments : List Value) (packages : List PackageState) (frame : Frame) (left : ℕ) (answers : List Answer)
    → RunCode book (unit_code v u) arguments packages frame left answers ≡ Run v u arguments packages frame left answers
