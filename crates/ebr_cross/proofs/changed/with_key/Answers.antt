use Rattle.std.proofs.Common.{IfOk, subst}
use Rattle.ebr_cross.specs.inside.Places.{Shows}
use Rattle.ebr_cross.proofs.changed.with_key.Goals as goal

pub returns : goal.returns
returns c = λ up lists h. subst (λ objects. IfOk c.with_objects.result (λ v. Shows c.args.view.now.edition objects c.args.view.now.tables v)) (c.in_ok-objects.ensures up lists h) c.with_objects.ensures
