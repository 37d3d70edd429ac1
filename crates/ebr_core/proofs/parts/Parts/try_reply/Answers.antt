use Rattle.std.proofs.Common.{subst, sym}
use Rattle.ebr_core.specs.History.{is_light}
use Rattle.ebr_core.specs.Machine.{Reply}
use Rattle.ebr_core.specs.inside.Held.{Holds, Tries}
use Rattle.ebr_core.proofs.Answering.{not_tried}
use Rattle.ebr_core.proofs.parts.Parts.try_reply.Goals as goal

pub returns-in_err-make_room-clause-reply : goal.returns-in_err-make_room-clause-reply
returns-in_err-make_room-clause-reply g c = λ db e x h has.
    not_tried g.K.Keep.as_keeper (is_light c.args.ask.now) c.args.self.now.current c.make_room.new.self.current db (Reply db c.args.s c.args.ask.now) c.make_room.ensures.current h c.from_residual.result c.from_residual.ensures.1

pub returns-clause-reply : goal.returns-clause-reply
returns-clause-reply g c = λ db e x h has.
    let same = c.make_room.ensures.current in
    subst (λ now. Tries g.K.Keep.as_keeper (is_light c.args.ask.now) now c.counted_reply.new.current db c.counted_reply.result (Reply db c.args.s c.args.ask.now)) same
    (c.counted_reply.ensures.reply db e x (subst (λ now. Holds g.K.Keep.as_keeper now db) (sym same) h) has)
