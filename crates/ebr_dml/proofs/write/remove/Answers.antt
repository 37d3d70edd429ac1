use Rattle.ebr_dml.proofs.Writing.{stays}
use Rattle.ebr_dml.proofs.write.remove.Goals as goal

pub returns-clause-stays : goal.returns-clause-stays
returns-clause-stays c = stays _ _ _ _ c.change.result c.requires.live c.change.ensures.changed c.change.ensures.unchanged
