use Rattle.ebr_startup.proofs.Files.{first_database}
use Rattle.ebr_startup.proofs.laws.first_records_have_a_database.Goals as goal

pub returns : goal.returns
returns c = first_database
