use Rattle.std.proofs.Common.{◌≡◌, ◌++◌, OnOk, subst}
use Rattle.ebr_fire.proofs.Laws.{group-seen}
use Rattle.ebr_fire.proofs.seen.add_seen.Goals as goal

pub returns : goal.returns
returns c = λ lists h.
    subst (λ fs. OnOk c.add_firings.result (c.add_firings.new.found ≡ c.args.found.now ++ fs))
    (group-seen lists c.args.e c.args.kind c.args.on.now c.keys.result.now c.new-triggers.result.keys c.add_under.new.triggers.keys c.new-triggers.ensures.empty (c.keys.ensures lists h) (c.in_ok-add_under.ensures lists h))
    c.add_firings.ensures
