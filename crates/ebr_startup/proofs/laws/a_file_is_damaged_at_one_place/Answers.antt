use Rattle.ebr_startup.proofs.Files.{one_place}
use Rattle.ebr_startup.proofs.laws.a_file_is_damaged_at_one_place.Goals as goal

pub returns : goal.returns
returns c = one_place
