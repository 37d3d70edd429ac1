use Rattle.ebr_code.proofs.Layers.{meaning_of-If}
use Rattle.ebr_machine.proofs.plain.done.Goals as goal

pub returns-in-If : goal.returns-in-If
returns-in-If c = rw c.in-If.is (rw meaning_of-If c.chosen.ensures)
