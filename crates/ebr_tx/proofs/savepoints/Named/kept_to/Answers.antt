use Rattle.std.proofs.Common.{arith}
use Rattle.ebr_tx.proofs.MarkLemmas.{kept_first, kept_all_of}
use Rattle.ebr_tx.proofs.savepoints.Named.kept_to.Goals as goal

pub returns-then-at-n : goal.returns-then-at-n
returns-then-at-n c = kept_first c.args.name.now c.args.self.now c.args.n c.place-at.result c.place-at.ensures c.if-at-n.true

pub returns : goal.returns
returns c = kept_all_of c.args.name.now c.args.self.now c.args.n c.place-at.result c.place-at.ensures (omega (arith, c.if-at-n.false))
