use Rattle.std.proofs.Common.{rules, ◌≡◌, sym, subst, Option}
use Rattle.ebr_base.specs.declared.numbers.EditionNo.{EditionNo}
use Rattle.ebr_editions.specs.Editions.{line_from}
use Rattle.ebr_editions.specs.inside.Held.{held_object, held_visible}
use Rattle.ebr_editions.specs.Objects.{nearest}
use Rattle.ebr_editions.proofs.Entries.{seen-step}
use Rattle.ebr_editions.proofs.actuals.Actuals.seen.Goals as goal

pub loop-next-preserved : goal.loop-next-preserved
loop-next-preserved g c =
    let at : EditionNo → Option (Option g.row.O.Denot) = λ d. held_object c.args.self.now d c.args.key.now in
    subst (λ p. nearest at (line_from c.args.chain.now.made p) ≡ held_visible c.args.chain.now.made c.args.self.now c.args.e c.args.key.now) (sym c.parent-next.ensures.parent)
    (seen-step c.args.chain.now c.parent-next.ensures.line at c.loop-next.next c.in-Some.d _ c.loop-next.invariant c.in-Some.is (search rules))
