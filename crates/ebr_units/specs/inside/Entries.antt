-- The entries of a book.
use Rattle.std.specs.Prelude.{Option, option_map}
use Rattle.ebr_base.specs.declared.object.ObjectKey.{ObjectKey}
use Rattle.ebr_ast.specs.declared.view.EditionView.{EditionView}
use Rattle.ebr_ast.specs.declared.view.Object.{Object}
use Rattle.ebr_run.specs.Units.{if_valid}
use Rattle.ebr_code.specs.declared.book.Unit as compiled
use Rattle.ebr_code.specs.Units.{unit_code}
use Rattle.ebr_units.specs.declared.book.Entry.{Entry}

-- the compiled unit of an object, where it is valid
abbrev pub unit_in : EditionView → Object → Option compiled.Unit
unit_in v o = option_map (unit_code v) (if_valid v o.tree)

abbrev pub entry : EditionView → Object → Entry
entry v o = record { object = o; unit = unit_in v o }

abbrev pub key_in : Entry → ObjectKey
key_in e = e.object.key
