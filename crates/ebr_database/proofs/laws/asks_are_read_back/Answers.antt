use Rattle.ebr_database.proofs.ReadsBack.{read_back}
use Rattle.ebr_database.proofs.laws.asks_are_read_back.Goals as goal

pub returns : goal.returns
returns c = read_back
