use Rattle.ebr_tx.specs.inside.Filed.{is_live}
use Rattle.ebr_tx.proofs.LiveLemmas.{live-found, place-within}
use Rattle.ebr_tx.proofs.live.place_of.Goals as goal

pub returns-clause-within : goal.returns-clause-within
returns-clause-within c = rw c.count_before.ensures (place-within (is_live c.args.t) c.args.live.now (live-found c.args.t c.args.live.now c.requires))
