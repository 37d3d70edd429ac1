use Rattle.ebr_cross.proofs.SeenObjects.{dropped}
use Rattle.ebr_cross.proofs.catalogue.Catalogue.plan_object_drop.Goals as goal

pub returns-in_ok-gone_record-in-Ok-clause-answer : goal.returns-in_ok-gone_record-in-Ok-clause-answer
returns-in_ok-gone_record-in-Ok-clause-answer c = λ lists h.
    dropped lists c.args.e c.args.kind c.in-Ok.key c.args.name.now _ c.in-Ok.ensures.key (c.in-Ok.ensures.answer lists h) c.in_ok-gone_record-in-Ok.ensures
