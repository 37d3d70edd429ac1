use Rattle.ebr_journal.proofs.Places.{one_damage}
use Rattle.ebr_journal.proofs.laws.damages_are_one.Goals as goal

pub returns : goal.returns
returns c = one_damage
