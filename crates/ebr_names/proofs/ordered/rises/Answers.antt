use Rattle.std.proofs.Common.{drop, ◌+◌, ◌&&◌, sym, ap, ◌∙◌, arith}
use Rattle.ebr_names.specs.inside.Rising.{rising}
use Rattle.ebr_names.proofs.Rising.{walked}
use Rattle.ebr_names.proofs.ordered.rises.Goals as goal

pub returns-then-not-goes_before : goal.returns-then-not-goes_before
returns-then-not-goes_before c =
    ap (λ b. b && rising (drop (c.loop-at.at + 1) c.args.objects.now)) (sym c.if-not-goes_before.true) ∙ walked c.args.objects.now c.loop-at.at _ _ _ (omega (arith, c.loop-at-test.true, c.len-at-end.ensures)) c.object_at-object.ensures c.object_at-next.ensures c.goes_before.ensures c.loop-at.invariant

pub loop-at-preserved : goal.loop-at-preserved
loop-at-preserved c =
    sym (ap (λ b. b && rising (drop (c.loop-at.at + 1) c.args.objects.now)) c.if-not-goes_before.false) ∙ walked c.args.objects.now c.loop-at.at _ _ _ (omega (arith, c.loop-at-test.true, c.len-at-end.ensures)) c.object_at-object.ensures c.object_at-next.ensures c.goes_before.ensures c.loop-at.invariant
