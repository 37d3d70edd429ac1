use Rattle.std.proofs.Common.{subst, sym}
use Rattle.ebr_database.specs.Database.{as_answer, reply_pop}
use Rattle.ebr_seats.specs.Seats.{Leaves}
use Rattle.ebr_seats.proofs.Live.{has_seat, level_there}
use Rattle.ebr_seats.proofs.Levels.{pop_reply}
use Rattle.ebr_seats.proofs.Replies as replies
use Rattle.ebr_seats.proofs.transact.pop_top.Goals as goal

pub pop_autonomous-popped-requires-clause-level : goal.pop_autonomous-popped-requires-clause-level
pop_autonomous-popped-requires-clause-level c = level_there c.args.tx.now.contents c.args.seats.now.items c.args.s c.requires.held c.requires.level

pub lower-requires-clause-seat : goal.lower-requires-clause-seat
lower-requires-clause-seat c = has_seat c.args.tx.now.contents c.args.seats.now.items c.args.s c.requires.held

pub returns : goal.returns
returns c = λ used db x h there.
    let sd = replies.held used c.args.tx.now.contents c.args.seats.now.items db c.args.s x h there in
    subst (λ ss. Leaves used c.pop_autonomous-popped.new.tx.contents ss (as_answer c.pop_autonomous-popped.result) (reply_pop db c.args.s x c.args.failed)) (sym (c.lower.ensures sd.seat sd.there))
    (pop_reply used c.args.tx.now.contents c.args.seats.now.items db c.args.s x h there (c.asks_are_read_back.ensures db) c.pop_autonomous-popped.new.tx.contents c.args.failed c.pop_autonomous-popped.result
    c.pop_autonomous-popped.ensures.storable c.pop_autonomous-popped.ensures.stacks c.requires.level c.pop_autonomous-popped.ensures.exact sd.seat sd.there)
