-- Where a statement stands in the code, and what it is said of.
use Rattle.ebr_base.specs.declared.numbers.EditionNo.{EditionNo}
use Rattle.ebr_base.specs.declared.row.TxId.{TxId}
use Rattle.std.specs.Prelude.{List}
use Rattle.ebr_ast.specs.declared.kinds.Origin.{Origin}
use Rattle.ebr_exec.specs.Places.{Place, Under}

abbrev pub place_at : EditionNo → Origin → TxId → List Under → Place
place_at e origin t changing = record { edition = e; origin = origin; tx = t; changing = changing }
