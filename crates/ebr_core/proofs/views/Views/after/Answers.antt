use Rattle.std.proofs.Common.{◌∙◌, sym, subst}
use Rattle.ebr_cross.specs.Records.{with_record}
use Rattle.ebr_units.specs.Living.{AreCurrent}
use Rattle.ebr_core.proofs.KeptViews.{one-of}
use Rattle.ebr_core.proofs.views.Views.after.Goals as goal

pub loop-view-init : goal.loop-view-init
loop-view-init c = λ lists own all is. c.new-next.ensures.current (with_record lists c.args.made.now)

pub loop-view-preserved : goal.loop-view-preserved
loop-view-preserved c = λ lists own all is.
    c.follow.ensures lists own (one-of lists c.as_slice-view-items.result.now c.loop-view.view-index c.view-item.result c.loop-view-test.true c.view-item.is all) is (c.loop-view.invariant lists own all is)

pub returns : goal.returns
returns c = λ lists own all is.
    subst (AreCurrent (with_record lists c.args.made.now)) (sym c.drop.view_is)
    (c.loop-view.invariant lists own (subst (AreCurrent lists) (sym (c.as_slice-view-items.ensures.value ∙ c.self.view_is)) all) is)
