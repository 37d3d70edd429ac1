use Rattle.ebr_startup.proofs.Files.{never_damaged}
use Rattle.ebr_startup.proofs.laws.a_database_is_not_damaged.Goals as goal

pub returns : goal.returns
returns c = never_damaged
