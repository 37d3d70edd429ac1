use Rattle.std.proofs.Common.{[], sym, subst}
use Rattle.ebr_recovery.specs.Recovery.{RecoversAll}
use Rattle.ebr_recovery.proofs.Extending.{all_done}
use Rattle.ebr_recovery.proofs.begin.extended.Goals as goal

pub returns : goal.returns
returns c = λ sessions stands.
    subst (RecoversAll sessions c.args.records.now) (sym c.value_if_done.ensures)
    (all_done sessions c.args.records.now c.extend-done.new.self c.extend-done.result (c.extend-done.ensures sessions [] stands))
