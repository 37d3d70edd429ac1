use Rattle.ebr_machinetests.proofs.Kept.{kept-first}
use Rattle.ebr_machinetests.proofs.editions.nothing_defined.Goals as goal

pub returns : goal.returns
returns c = kept-first c.new.result c.new.ensures
