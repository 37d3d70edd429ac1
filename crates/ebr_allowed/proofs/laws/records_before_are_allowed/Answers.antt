use Rattle.ebr_allowed.proofs.RecordLemmas.{records_before}
use Rattle.ebr_allowed.proofs.laws.records_before_are_allowed.Goals as goal

pub returns : goal.returns
returns c = records_before
