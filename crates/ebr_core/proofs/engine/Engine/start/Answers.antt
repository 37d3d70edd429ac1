use Rattle.std.proofs.Common.{subst, sym}
use Rattle.ebr_core.specs.Recovered.{AreRecovered, IsReady}
use Rattle.ebr_core.proofs.Starting.{none_recovered}
use Rattle.ebr_core.proofs.engine.Engine.start.Goals as goal

pub over-requires-clause-are : goal.over-requires-clause-are
over-requires-clause-are g c =
    subst (λ rs. AreRecovered rs c.args.sessions c.in_ok-catalogue.catalogue c.in_ok-transactions.transactions.contents) (sym c.new-none.ensures)
    (none_recovered c.args.sessions c.in_ok-catalogue.catalogue c.in_ok-transactions.transactions.contents c.in_ok-catalogue.ensures c.in_ok-transactions.ensures.contents)

pub over-requires-clause-ready : goal.over-requires-clause-ready
over-requires-clause-ready g c = subst (λ rs. IsReady rs (g.K.Keep.as_keeper c.args.keeper)) (sym c.new-none.ensures) c.requires
