use Rattle.std.proofs.Common.{rules, ◌≡◌, true}
use Rattle.ebr_fire.specs.Fires.{is_fired}
use Rattle.ebr_fire.proofs.Order.{inserted}
use Rattle.ebr_fire.proofs.firing.add_object.Goals as goal

pub returns : goal.returns
returns c =
    let fires : is_fired c.args.kind c.args.on.now c.args.object.now ≡ true = search rules in
    inserted c.args.kind c.args.on.now c.args.group.now.keys c.insert.new.self.keys c.args.object.now c.in_ok-with_stamp.field-0 fires c.in_ok-with_stamp.ensures c.in_ok-insert.ensures.keys
