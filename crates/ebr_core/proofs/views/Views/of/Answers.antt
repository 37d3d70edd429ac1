use Rattle.std.proofs.Common.{ap, sym, ◌∙◌}
use Rattle.std.specs.Option.{option_copied}
use Rattle.ebr_core.proofs.KeptViews.{a-view, answers-kept, is-current}
use Rattle.ebr_core.proofs.views.Views.of.Goals as goal

pub returns-in-Some-clause-view : goal.returns-in-Some-clause-view
returns-in-Some-clause-view c = λ lists own all is.
    answers-kept lists c.args.e c.args.self.now c.in-Some.view.now c.clone_in.result all (sym c.found.ensures ∙ ap option_copied c.in-Some.is) c.clone_in.ensures

pub returns-clause-view : goal.returns-clause-view
returns-clause-view c = λ lists own all is.
    a-view lists c.args.e c.in_ok-view.view c.in_ok-view_of.field-0 c.in_ok-view.ensures (c.in_ok-view_of.ensures.view lists is) (c.in_ok-view_of.ensures.order lists is own)

pub returns-clause-current : goal.returns-clause-current
returns-clause-current c = λ lists own all is.
    c.add.ensures lists all (is-current lists c.args.e c.in_ok-view.view c.clone_in-2.result
    (a-view lists c.args.e c.in_ok-view.view c.in_ok-view_of.field-0 c.in_ok-view.ensures (c.in_ok-view_of.ensures.view lists is) (c.in_ok-view_of.ensures.order lists is own)) c.clone_in-2.ensures)
