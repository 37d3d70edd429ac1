-- The books that a definition leaves current.
use Rattle.std.specs.Prelude.{Bool, nat_le}
use Rattle.ebr_base.specs.declared.numbers.EditionNo.{EditionNo}
use Rattle.ebr_ast.specs.declared.view.EditionView.{EditionView}

abbrev pub is_up_to : EditionNo → EditionView → Bool
is_up_to e v = nat_le v.edition.0 e.0
