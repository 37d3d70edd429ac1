use Rattle.ebr_laws.proofs.Units.{run_same}
use Rattle.ebr_laws.proofs.one_meaning.Goals as goal

pub returns : goal.returns
returns c = run_same
