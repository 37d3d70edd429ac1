use Rattle.ebr_cross.proofs.InOrder.{one-more}
use Rattle.ebr_cross.proofs.view.in_order.Goals as goal

pub loop-key-preserved : goal.loop-key-preserved
loop-key-preserved c = one-more c.args.keys.now c.loop-key.key-index c.loop-key.set.keys c.insert.new.self.keys _ c.loop-key-test.true c.key-item.is c.loop-key.invariant c.in_ok-insert.ensures.keys
