-- What a book of an edition answers, and how many units it has.
use Rattle.std.specs.Prelude.{ℕ, List, length, count_by, option_map}
use Rattle.ebr_ast.specs.declared.view.EditionView.{EditionView}
use Rattle.ebr_ast.specs.declared.view.Object.{Object}
use Rattle.ebr_validity.specs.Verdict.{is_valid}
use Rattle.ebr_run.specs.Units.{valid_unit, stamp_in}
use Rattle.ebr_code.specs.Books.{Book}
use Rattle.ebr_code.specs.Units.{unit_code}

-- the compiled unit of each visible object that is valid, the stamp of each visible one, and how many there are
abbrev pub served : EditionView → Book
served v = record { unit = λ key. option_map (unit_code v) (valid_unit v key); stamp = stamp_in v; objects = length v.objects }

-- how many of these objects are valid
abbrev pub valid_among : EditionView → List Object → ℕ
valid_among v objects = count_by (λ (o : Object). is_valid v o.tree) objects

-- how many visible objects are valid
abbrev pub valid_count : EditionView → ℕ
valid_count v = valid_among v v.objects
