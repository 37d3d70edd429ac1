use Rattle.std.proofs.Common.{subst, sym, Ok}
use Rattle.std.proofs.lemmas.Result.{err_from_is_err_and}
use Rattle.ebr_database.specs.Database.{as_answer, reply_push}
use Rattle.ebr_seats.specs.Seats.{Leaves}
use Rattle.ebr_seats.proofs.Live.{has_seat, own_lives}
use Rattle.ebr_seats.proofs.Levels.{few_levels, push_ok, push_err}
use Rattle.ebr_seats.proofs.Replies as replies
use Rattle.ebr_seats.proofs.transact.push_top.Goals as goal

pub push_autonomous-requires-clause-live : goal.push_autonomous-requires-clause-live
push_autonomous-requires-clause-live c = own_lives c.args.tx.now.contents c.args.seats.now.items c.args.s c.requires

pub returns-in_err-push_autonomous : goal.returns-in_err-push_autonomous
returns-in_err-push_autonomous c =
    let p = err_from_is_err_and c.from_residual.result c.from_residual.ensures.1 in rw (p.1, p.2)
    (λ used db x h there in_call.
    push_err used c.args.tx.now.contents c.args.seats.now.items db c.args.s x h there (c.asks_are_read_back.ensures db) c.push_autonomous.new.tx.contents c.push_autonomous.ensures.storable
    c.in_err-push_autonomous.field-0.0 c.in_err-push_autonomous.ensures.unchanged c.in_err-push_autonomous.ensures.exact)

pub raise-requires-clause-seat : goal.raise-requires-clause-seat
raise-requires-clause-seat c = has_seat c.args.tx.now.contents c.args.seats.now.items c.args.s c.requires

pub raise-requires-clause-few : goal.raise-requires-clause-few
raise-requires-clause-few c = few_levels c.args.tx.now.contents c.args.seats.now.items c.args.s c.requires c.push_autonomous.new.tx.contents c.in_ok-push_autonomous.ensures.exact

pub returns : goal.returns
returns c = λ used db x h there in_call.
    let sd = replies.held used c.args.tx.now.contents c.args.seats.now.items db c.args.s x h there in
    subst (λ ss. Leaves used c.push_autonomous.new.tx.contents ss (as_answer (Ok tt)) (reply_push db c.args.s x)) (sym (c.raise.ensures sd.seat sd.there))
    (push_ok used c.args.tx.now.contents c.args.seats.now.items db c.args.s x h there (c.asks_are_read_back.ensures db) c.push_autonomous.new.tx.contents c.push_autonomous.ensures.storable
    c.in_ok-push_autonomous.ensures.stacks in_call c.in_ok-push_autonomous.ensures.exact)
