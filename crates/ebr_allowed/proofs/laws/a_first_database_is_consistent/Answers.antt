use Rattle.ebr_allowed.proofs.FirstLemmas.{first_is_consistent}
use Rattle.ebr_allowed.proofs.laws.a_first_database_is_consistent.Goals as goal

pub returns : goal.returns
returns c = first_is_consistent
