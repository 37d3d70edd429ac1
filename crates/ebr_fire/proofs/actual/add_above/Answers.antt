use Rattle.std.proofs.Common.{◌≡◌, ◌++◌, OnOk, subst, ap}
use Rattle.ebr_cross.specs.declared.catalogue.Catalogue.{Catalogue}
use Rattle.ebr_fire.specs.Fires.{ancestors}
use Rattle.ebr_fire.proofs.Laws.{group-among}
use Rattle.ebr_fire.proofs.actual.add_above.Goals as goal

pub returns : goal.returns
returns c = λ lists h.
    subst (λ fs. OnOk c.add_firings.result (c.add_firings.new.found ≡ c.args.found.now ++ fs))
    (group-among lists c.args.e c.args.kind c.args.on.now (ancestors c.args.c.now.chain.made c.args.e) (ancestors lists.editions.made c.args.e) c.new-triggers.result.keys c.add_ancestors.new.triggers.keys c.new-triggers.ensures.empty (ap (λ (x : Catalogue). ancestors x.chain.made c.args.e) h) (c.in_ok-add_ancestors.ensures lists h))
    c.add_firings.ensures
