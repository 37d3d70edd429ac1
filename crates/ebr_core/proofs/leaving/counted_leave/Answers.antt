use Rattle.std.proofs.Common.{refl}
use Rattle.ebr_core.proofs.HasLeft.{has_left, left, left_seat, left_there}
use Rattle.ebr_core.proofs.leaving.counted_leave.Goals as goal

pub count_ask-requires : goal.count_ask-requires
count_ask-requires g c =
    let h = c.requires in
    let l = c.leave.ensures (g.K.Keep.as_keeper c.args.current.now.world.keeper).used h.database h.session h.holds.seated h.has.there in
    left_seat (g.K.Keep.as_keeper c.args.current.now.world.keeper).used _ _ h.database c.args.s h.session h.has.there l.holds

pub returns : goal.returns
returns g c = λ db e x h has.
    let used = (g.K.Keep.as_keeper c.args.current.now.world.keeper).used in
    let l = c.leave.ensures used db x h.seated has.there in
    has_left g.K.Keep.as_keeper c.args.current.now _ db c.args.s e x h has.there has.edition refl refl refl refl
    (c.count_ask.ensures c.leave.new.tx.contents used _ (left x) l.holds (left_there db c.args.s x has.there))
