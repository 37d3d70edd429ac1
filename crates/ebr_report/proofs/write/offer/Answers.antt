use Rattle.std.proofs.Common.{arith, ◌∙◌}
use Rattle.ebr_report.proofs.Additions.{held_on}
use Rattle.ebr_report.proofs.write.offer.Goals as goal

pub loop-at-preserved : goal.loop-at-preserved
loop-at-preserved g c = record {
  onward = omega arith;
  within = omega (arith, c.in-Ok.ensures.some);
  held = held_on _ _ _ _ _ _ _ c.loop-at.invariant.onward c.loop-at.invariant.held c.in-Ok.ensures.grown;
  counted = c.in-Ok.ensures.counted ∙ c.loop-at.invariant.counted;
  same = c.write.ensures.same ∙ c.loop-at.invariant.same;
}
