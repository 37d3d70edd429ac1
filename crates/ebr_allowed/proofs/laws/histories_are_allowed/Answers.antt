use Rattle.ebr_allowed.proofs.HistoryLemmas.{histories_allowed}
use Rattle.ebr_allowed.proofs.laws.histories_are_allowed.Goals as goal

pub returns : goal.returns
returns c = histories_allowed
