use Rattle.std.proofs.Common.{subst, sym}
use Rattle.ebr_database.specs.Database.{with_session, counted}
use Rattle.ebr_seats.specs.Seats.{Holds}
use Rattle.ebr_seats.proofs.Calls.{ask_counted}
use Rattle.ebr_seats.proofs.Replies.{held}
use Rattle.ebr_seats.proofs.call.count_ask.Goals as goal

pub returns : goal.returns
returns c = λ d used db x h there.
    let sd = held used d c.args.seats.now.items db c.args.s x h there in
    subst (λ ss. Holds used d ss (with_session db c.args.s (counted c.args.ask.now c.args.answer.now x))) (sym (c.count.ensures sd.seat sd.there))
    (ask_counted used d c.args.seats.now.items db c.args.s x h there c.args.ask.now c.args.answer.now c.ask_weight.result c.answer_weight.result c.ask_weight.ensures c.answer_weight.ensures)
