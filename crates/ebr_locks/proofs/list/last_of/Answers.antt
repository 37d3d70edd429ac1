use Rattle.ebr_locks.proofs.OwnedLemmas.{last_found, none_found}
use Rattle.ebr_locks.proofs.list.last_of.Goals as goal

pub returns-clause-some : goal.returns-clause-some
returns-clause-some c = last_found c.args.owners.now c.args.tx.now c.spot.result c.last_before.result c.spot.ensures c.last_before.ensures.some

pub returns-clause-none : goal.returns-clause-none
returns-clause-none c = none_found c.args.owners.now c.args.tx.now c.spot.result c.last_before.result c.spot.ensures c.last_before.ensures.none
