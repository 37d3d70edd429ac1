use Rattle.ebr_statements.proofs.Within.{stays_popped}
use Rattle.ebr_statements.proofs.asks.pop.Goals as goal

pub returns-clause-opened : goal.returns-clause-opened
returns-clause-opened c = λ under.
    stays_popped c.args.t c.args.opened.now c.requires.some c.args.tx.now.contents c.pop_autonomous.new.tx.contents under c.args.failed c.pop_autonomous.result c.pop_autonomous.ensures.exact
