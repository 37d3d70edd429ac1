use Rattle.std.proofs.Common.{sym}
use Rattle.ebr_editions.proofs.Line.{parent-smaller}
use Rattle.ebr_editions.proofs.chain.Chain.parent.Goals as goal

pub returns-clause-smaller : goal.returns-clause-smaller
returns-clause-smaller c = parent-smaller c.args.self.now c.args.e c.in_ok-entry.field-0.now c.entry.ensures.line (sym c.in_ok-entry.ensures.entry)
