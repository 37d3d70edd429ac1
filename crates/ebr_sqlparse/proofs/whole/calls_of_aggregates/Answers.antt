use Rattle.ebr_sqlparse.proofs.Aggregates.{aggregates}
use Rattle.ebr_sqlparse.proofs.whole.calls_of_aggregates.Goals as goal

pub returns : goal.returns
returns c = aggregates
