use Rattle.std.proofs.Common.{subst, sym}
use Rattle.std.proofs.Common.{Ok}
use Rattle.ebr_tx.specs.Data.{IsIn, named_at}
use Rattle.ebr_database.specs.Transact.{back_to}
use Rattle.ebr_database.specs.Shows.{Leaves as Left}
use Rattle.ebr_database.specs.Database.{as_answer, reply_back_to}
use Rattle.ebr_seats.specs.Seats.{Leaves}
use Rattle.ebr_seats.proofs.Live.{top_lives, has_seat, own_lives}
use Rattle.ebr_seats.proofs.Asked.{IsTop, back_to_reply, no_savepoint_reply}
use Rattle.ebr_seats.proofs.Replies.{held}
use Rattle.ebr_seats.proofs.transact.back_to_top.Goals as goal

pub back_to-requires-clause-live : goal.back_to-requires-clause-live
back_to-requires-clause-live c =
    top_lives c.args.tx.now.contents c.args.seats.now.items c.args.s c.requires c.top_of-t.result
    (subst (λ ss. IsTop ss c.args.s c.top_of-t.result) c.as_slice.ensures.value c.top_of-t.ensures)

pub returns-in-Err : goal.returns-in-Err
returns-in-Err c = λ used db x h there.
    no_savepoint_reply used c.args.tx.now.contents c.args.seats.now.items db c.args.s x h there (c.asks_are_read_back.ensures db) c.top_of-t.result
    (subst (λ ss. IsTop ss c.args.s c.top_of-t.result) c.as_slice.ensures.value c.top_of-t.ensures)
    c.back_to.new.tx.contents c.back_to.ensures.stacks c.back_to.ensures.storable c.args.name.now c.in-Err.code
    (subst (λ r. Left (back_to c.top_of-t.result c.args.name.now) c.args.tx.now.contents c.back_to.new.tx.contents r) c.in-Err.is c.back_to.ensures.exact)

pub move_mark-requires-clause-seat : goal.move_mark-requires-clause-seat
move_mark-requires-clause-seat c = has_seat c.args.tx.now.contents c.args.seats.now.items c.args.s c.requires

pub move_mark-requires-clause-live : goal.move_mark-requires-clause-live
move_mark-requires-clause-live c =
    subst (λ names. IsIn names (named_at c.args.s 0)) (sym c.back_to.ensures.stacks) (own_lives c.args.tx.now.contents c.args.seats.now.items c.args.s c.requires)

pub returns : goal.returns
returns c = λ used db x h there.
    let sd = held used c.args.tx.now.contents c.args.seats.now.items db c.args.s x h there in
    subst (λ ss. Leaves used c.back_to.new.tx.contents ss (as_answer (Ok tt)) (reply_back_to db c.args.s x c.args.name.now)) (sym (c.in_ok-move_mark.ensures.moved sd.seat sd.there))
    (back_to_reply used c.args.tx.now.contents c.args.seats.now.items db c.args.s x h there (c.asks_are_read_back.ensures db) c.top_of-t.result
    (subst (λ ss. IsTop ss c.args.s c.top_of-t.result) c.as_slice.ensures.value c.top_of-t.ensures)
    c.back_to.new.tx.contents c.back_to.ensures.stacks c.back_to.ensures.storable c.args.name.now
    (subst (λ r. Left (back_to c.top_of-t.result c.args.name.now) c.args.tx.now.contents c.back_to.new.tx.contents r) c.in_default.is c.back_to.ensures.exact)
    c.in_ok-move_mark.ensures.mark)
