use Rattle.std.proofs.Common.{subst, sym}
use Rattle.ebr_asks.specs.declared.answer.Answer.TheVariants.{Done}
use Rattle.ebr_seats.specs.Ends.{reply_end}
use Rattle.ebr_seats.specs.Seats.{Leaves}
use Rattle.ebr_seats.proofs.Calls.{ended, mark_there}
use Rattle.ebr_seats.proofs.Live.{own_lives}
use Rattle.ebr_seats.proofs.Replies.{held}
use Rattle.ebr_seats.proofs.call.end_call.Goals as goal

pub go_back-requires-clause-live : goal.go_back-requires-clause-live
go_back-requires-clause-live c = own_lives c.args.tx.now.contents c.args.seats.now.items c.args.s c.requires

pub go_back-requires-clause-mark : goal.go_back-requires-clause-mark
go_back-requires-clause-mark c =
    mark_there c.requires.used c.args.tx.now.contents c.args.seats.now.items c.requires.database c.args.s c.requires.session c.requires.holds c.requires.there c.take_mark-mark.result c.take_mark-mark.ensures.mark

pub returns : goal.returns
returns c = λ used db x h there on_top.
    let sd = held used c.args.tx.now.contents c.args.seats.now.items db c.args.s x h there in
    subst (λ ss. Leaves used c.go_back.new.tx.contents ss Done (reply_end db c.args.s x c.args.failed)) (sym (c.take_mark-mark.ensures.seats sd.seat sd.there))
    (ended used c.args.tx.now.contents c.args.seats.now.items db c.args.s x h there c.go_back.new.tx.contents c.args.failed c.take_mark-mark.result c.take_mark-mark.ensures.mark
    c.go_back.ensures.stacks c.go_back.ensures.contents on_top)
