use Rattle.ebr_core.proofs.ReadsBack.{are_read_back}
use Rattle.ebr_core.proofs.laws.definitions_are_read_back.Goals as goal

pub returns : goal.returns
returns c = are_read_back
