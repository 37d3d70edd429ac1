use Rattle.ebr_cross.proofs.ObjectPuts.{object-allowed, object-full}
use Rattle.ebr_cross.proofs.catalogue.Catalogue.allowed_object.Goals as goal

pub returns-in-Ok : goal.returns-in-Ok
returns-in-Ok c = λ lists h.
    object-allowed c.args.self.now lists c.args.e c.args.key.now c.args.text.now c.args.tree.now c.args.enabled c.in_ok-object.object _ h (c.in_ok-object.ensures lists h) c.in-Ok.ensures

pub returns-in-Err : goal.returns-in-Err
returns-in-Err c = λ lists h.
    object-full c.args.self.now lists c.args.e c.args.key.now c.args.text.now c.args.tree.now c.args.enabled c.in_ok-object.object c.in-Err.code h (c.in_ok-object.ensures lists h) c.in-Err.ensures
