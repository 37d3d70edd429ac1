use Rattle.std.proofs.Common.{arith, refl, rules}
use Rattle.ebr_order.proofs.Numbers.{more}
use Rattle.ebr_order.proofs.number.number_in_front.Goals as goal

pub loop-byte-preserved : goal.loop-byte-preserved
loop-byte-preserved c = record {
  same = more _ _ _ _ _ _ _ c.loop-byte-test.true refl (search rules) (search rules) c.loop-byte.invariant.same;
  within = omega arith;
}
