use Rattle.ebr_allowed.proofs.HistoryLemmas.{first_records_allowed}
use Rattle.ebr_allowed.proofs.laws.first_records_are_allowed.Goals as goal

pub returns : goal.returns
returns c = first_records_allowed
