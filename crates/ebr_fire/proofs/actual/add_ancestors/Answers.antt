use Rattle.std.proofs.Common.{◌∷◌, sym, ap, ◌∙◌}
use Rattle.ebr_editions.specs.Editions.{line_from}
use Rattle.ebr_editions.proofs.Line.{line_of-step}
use Rattle.ebr_fire.proofs.Laws.{edition-more}
use Rattle.ebr_fire.proofs.actual.add_ancestors.Goals as goal

pub loop-next-preserved : goal.loop-next-preserved
loop-next-preserved c = λ lists h.
    let made = c.args.c.now.chain.made in
    edition-more lists c.args.kind c.args.on.now c.loop-next.triggers.keys c.add_edition.new.triggers.keys c.in-Some.d (line_from made c.loop-next.next) (line_from made c.parent-next-in-Some.result) _
    (ap (line_from made) c.in-Some.is ∙ (line_of-step c.args.c.now.chain c.parent-next.ensures.line c.in-Some.d ∙ ap (λ p. c.in-Some.d ∷ line_from made p) (sym c.parent-next-in-Some.ensures.parent)))
    (c.in_ok-add_edition.ensures lists h) (c.loop-next.invariant lists h)
