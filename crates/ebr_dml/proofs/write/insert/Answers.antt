use Rattle.ebr_dml.proofs.Writing.{stays}
use Rattle.ebr_dml.proofs.write.insert.Goals as goal

pub returns-clause-stays : goal.returns-clause-stays
returns-clause-stays c = stays _ _ _ _ c.insert.result c.requires.live c.insert.ensures.inserted c.insert.ensures.unchanged
