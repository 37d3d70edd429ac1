-- A target of the code, as what is assigned to.
use Rattle.ebr_run.specs.Statements.{Place, Stored, New, Nowhere}
use Rattle.ebr_exprcode.specs.declared.targets.Place as has
use Rattle.ebr_exprcode.specs.declared.targets.Place.TheVariants as found

abbrev pub placed : has.Place → Place
placed (found.Stored l t) = Stored l t
placed (found.New k t) = New k t
placed found.Nowhere = Nowhere
