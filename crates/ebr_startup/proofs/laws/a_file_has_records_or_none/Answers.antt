use Rattle.ebr_startup.proofs.Files.{records_or_none}
use Rattle.ebr_startup.proofs.laws.a_file_has_records_or_none.Goals as goal

pub returns : goal.returns
returns c = records_or_none
