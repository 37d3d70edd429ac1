use Rattle.std.proofs.Common.{ap, ◌∙◌}
use Rattle.ebr_cross.specs.declared.catalogue.Catalogue.{Catalogue}
use Rattle.ebr_cross.proofs.Applied.{if_ok-map}
use Rattle.ebr_cross.proofs.Seen.{looked-up, shown, shown-view}
use Rattle.ebr_cross.proofs.view.view_of.Goals as goal

pub returns-clause-view : goal.returns-clause-view
returns-clause-view c = λ lists h.
    if_ok-map c.view_with.result
    (λ v shows. shown-view lists c.args.e _ _ v
    (c.in_ok-objects-2.ensures ∙ (c.as_slice.ensures ∙ looked-up c.args.c.now lists c.args.e _ _ _ h c.keys.ensures c.in_ok-keys.ensures c.in_ok-objects.ensures))
    (c.in_ok-tables.ensures ∙ ap (λ (n : Catalogue). n.tables.living) h) shows)
    c.view_with.ensures

pub returns-clause-order : goal.returns-clause-order
returns-clause-order c = λ lists h own.
    if_ok-map c.view_with.result
    (λ v shows. (shown lists c.args.e _ _ v own
    (c.in_ok-objects-2.ensures ∙ (c.as_slice.ensures ∙ looked-up c.args.c.now lists c.args.e _ _ _ h c.keys.ensures c.in_ok-keys.ensures c.in_ok-objects.ensures))
    (c.in_ok-tables.ensures ∙ ap (λ (n : Catalogue). n.tables.living) h) shows).order)
    c.view_with.ensures
