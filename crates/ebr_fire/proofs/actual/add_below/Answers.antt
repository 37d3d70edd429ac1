use Rattle.std.proofs.Common.{◌≡◌, ◌++◌, OnOk, subst, ap}
use Rattle.ebr_cross.specs.declared.catalogue.Catalogue.{Catalogue}
use Rattle.ebr_fire.specs.Fires.{descendants}
use Rattle.ebr_fire.proofs.Laws.{group-among}
use Rattle.ebr_fire.proofs.actual.add_below.Goals as goal

pub returns : goal.returns
returns c = λ lists h.
    subst (λ fs. OnOk c.add_firings.result (c.add_firings.new.found ≡ c.args.found.now ++ fs))
    (group-among lists c.args.e c.args.kind c.args.on.now (descendants c.args.c.now.chain.made c.args.e) (descendants lists.editions.made c.args.e) c.new-triggers.result.keys c.add_descendants.new.triggers.keys c.new-triggers.ensures.empty (ap (λ (x : Catalogue). descendants x.chain.made c.args.e) h) (c.in_ok-add_descendants.ensures lists h))
    c.add_firings.ensures
