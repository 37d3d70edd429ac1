use Rattle.ebr_journal.proofs.Records.{one_list}
use Rattle.ebr_journal.proofs.laws.records_are_one.Goals as goal

pub returns : goal.returns
returns c = one_list
