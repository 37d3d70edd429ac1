use Rattle.std.proofs.Common.{subst, sym}
use Rattle.ebr_seats.specs.Seats.{Leaves}
use Rattle.ebr_database.specs.Database.{as_answer, reply_rollback}
use Rattle.std.proofs.Common.{Ok}
use Rattle.ebr_seats.proofs.Live.{top_lives, has_seat}
use Rattle.ebr_seats.proofs.Asked.{IsTop, rollback_reply}
use Rattle.ebr_seats.proofs.Replies.{held}
use Rattle.ebr_seats.proofs.transact.roll_back_top.Goals as goal

pub roll_back-requires-clause-live : goal.roll_back-requires-clause-live
roll_back-requires-clause-live c =
    top_lives c.args.tx.now.contents c.args.seats.now.items c.args.s c.requires c.top_of-t.result
    (subst (λ ss. IsTop ss c.args.s c.top_of-t.result) c.as_slice.ensures.value c.top_of-t.ensures)

pub end_mark-requires : goal.end_mark-requires
end_mark-requires c = has_seat c.args.tx.now.contents c.args.seats.now.items c.args.s c.requires

pub returns : goal.returns
returns c = λ used db x h there.
    let sd = held used c.args.tx.now.contents c.args.seats.now.items db c.args.s x h there in
    subst (λ ss. Leaves used c.roll_back.new.tx.contents ss (as_answer (Ok tt)) (reply_rollback db c.args.s x)) (sym (c.end_mark.ensures sd.seat sd.there))
    (rollback_reply used c.args.tx.now.contents c.args.seats.now.items db c.args.s x h there (c.asks_are_read_back.ensures db) c.top_of-t.result
    (subst (λ ss. IsTop ss c.args.s c.top_of-t.result) c.as_slice.ensures.value c.top_of-t.ensures)
    c.roll_back.new.tx.contents c.roll_back.ensures.stacks c.roll_back.ensures.storable c.roll_back.ensures.exact)
