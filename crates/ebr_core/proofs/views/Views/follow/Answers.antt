use Rattle.ebr_cross.specs.Records.{with_record}
use Rattle.ebr_core.proofs.KeptViews.{is-current-then}
use Rattle.ebr_core.proofs.views.Views.follow.Goals as goal

pub returns : goal.returns
returns c = λ lists own seen is all.
    c.add.ensures (with_record lists c.args.made.now) all (is-current-then (with_record lists c.args.made.now) c.args.view.now.edition c.view_after.result (c.view_after.ensures lists own seen is))
