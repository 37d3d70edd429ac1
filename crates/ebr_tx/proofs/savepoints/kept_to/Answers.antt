use Rattle.std.proofs.Common.{ap}
use Rattle.ebr_tx.specs.inside.Marked.{held_by}
use Rattle.ebr_tx.proofs.MarkLemmas.{none_kept}
use Rattle.ebr_tx.proofs.savepoints.kept_to.Goals as goal

pub returns-in-None : goal.returns-in-None
returns-in-None c = none_kept c.args.name.now c.args.n (held_by c.args.named.now) (ap held_by c.in-None.is)
