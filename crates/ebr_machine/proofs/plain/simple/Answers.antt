use Rattle.ebr_code.proofs.Layers.{meaning_of-Do}
use Rattle.ebr_machine.proofs.plain.simple.Goals as goal

pub returns-then-is_plain : goal.returns-then-is_plain
returns-then-is_plain c calls asks given = rw c.in-Do.is (rw meaning_of-Do (c.in_ok-plain-in-Do.ensures calls asks given))
