use Rattle.ebr_cross.proofs.ObjectPuts.{object-put}
use Rattle.ebr_cross.proofs.catalogue.Catalogue.put_object.Goals as goal

pub returns : goal.returns
returns c = λ lists h.
    object-put c.args.self.now lists c.args.object.now c.get.result.now c.get-2.result.now c.in_ok-object.object c.in_ok-key.key c.enter.new.self h
    c.get.ensures c.get-2.ensures c.in_ok-key.ensures c.in_ok-object.ensures c.in_ok-enter.ensures.made
