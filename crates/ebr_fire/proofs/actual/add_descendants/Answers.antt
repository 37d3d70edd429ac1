use Rattle.std.proofs.Common.{◌-◌, ◌+◌, ◌∷◌, sym, ap, ◌∙◌}
use Rattle.ebr_editions.specs.Editions.{max_editions}
use Rattle.ebr_fire.specs.Fires.{line_down}
use Rattle.ebr_fire.specs.inside.Groups.{with_editions}
use Rattle.ebr_fire.proofs.Laws.{down-step, down-none, down-end, edition-more}
use Rattle.ebr_fire.proofs.actual.add_descendants.Goals as goal

pub loop-turn-init : goal.loop-turn-init
loop-turn-init c = λ lists h.
    ap (λ next. with_editions lists c.args.kind c.args.on.now c.args.triggers.now.keys (line_down c.args.c.now.chain.made max_editions next)) c.child-next.ensures

pub returns-in_default : goal.returns-in_default
returns-in_default c = λ lists h.
    sym (ap (λ es. with_editions lists c.args.kind c.args.on.now c.loop-turn.triggers.keys es) (down-none c.args.c.now.chain.made (max_editions - c.loop-turn._turn) c.loop-turn.next c.in_default.is))
    ∙ c.loop-turn.invariant lists h

pub loop-turn-preserved : goal.loop-turn-preserved
loop-turn-preserved c = λ lists h.
    let made = c.args.c.now.chain.made in
    let left = max_editions - (c.loop-turn._turn + 1) in
    edition-more lists c.args.kind c.args.on.now c.loop-turn.triggers.keys c.add_edition.new.triggers.keys c.in-Some.d (line_down made (max_editions - c.loop-turn._turn) c.loop-turn.next) (line_down made left c.child-next-in-loop-turn.result) _
    (down-step made max_editions c.loop-turn._turn c.loop-turn.next c.in-Some.d c.loop-turn-test.true c.in-Some.is ∙ ap (λ next. c.in-Some.d ∷ line_down made left next) (sym c.child-next-in-loop-turn.ensures))
    (c.in_ok-add_edition.ensures lists h) (c.loop-turn.invariant lists h)

pub returns : goal.returns
returns c = λ lists h.
    sym (ap (λ es. with_editions lists c.args.kind c.args.on.now c.loop-turn.triggers.keys es) (down-end c.args.c.now.chain.made max_editions c.loop-turn._turn c.loop-turn.next c.loop-turn-test.false))
    ∙ c.loop-turn.invariant lists h
