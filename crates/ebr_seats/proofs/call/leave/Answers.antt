use Rattle.std.proofs.Common.{◌≡◌, subst, sym, ap, ◌∙◌}
use Rattle.ebr_asks.specs.declared.answer.Answer.TheVariants.{Done}
use Rattle.ebr_tx.specs.Data.{IsLive, named_at}
use Rattle.ebr_tx.specs.Calls.{after_rollback}
use Rattle.ebr_database.specs.Base.{Base}
use Rattle.ebr_database.specs.Outcome.{Outcome}
use Rattle.ebr_database.specs.Transact.{Done as Made}
use Rattle.ebr_seats.specs.Ends.{closed_from_top, reply_leave}
use Rattle.ebr_seats.specs.Seats.{HasSeat, Leaves}
use Rattle.ebr_seats.proofs.Calls.{AreLevels, all_left, stack_by}
use Rattle.ebr_seats.proofs.Live.{has_seat, own_live}
use Rattle.ebr_seats.proofs.Replies.{held}
use Rattle.ebr_seats.proofs.call.leave.Goals as goal

pub levels_of-levels-requires : goal.levels_of-levels-requires
levels_of-levels-requires c = subst (λ ss. HasSeat ss c.args.s) (sym c.as_slice.ensures.value) (has_seat c.args.tx.now.contents c.args.seats.now.items c.args.s c.requires)

pub close_levels-requires-clause-stack : goal.close_levels-requires-clause-stack
close_levels-requires-clause-stack c =
    stack_by c.args.tx.now.contents c.args.seats.now.items c.args.s c.requires c.levels_of-levels.result
    (subst (λ ss. AreLevels ss c.args.s c.levels_of-levels.result) c.as_slice.ensures.value c.levels_of-levels.ensures)

pub roll_back-requires-clause-live : goal.roll_back-requires-clause-live
roll_back-requires-clause-live c =
    subst (IsLive c.close_levels.new.tx.contents) (sym c.own_of.ensures) (own_live c.close_levels.new.tx.contents c.args.s 0 c.close_levels.ensures.stack)

pub empty_seat-requires : goal.empty_seat-requires
empty_seat-requires c = has_seat c.args.tx.now.contents c.args.seats.now.items c.args.s c.requires

pub returns : goal.returns
returns c = λ used db x h there.
    let sd = held used c.args.tx.now.contents c.args.seats.now.items db c.args.s x h there in
    let levels : c.levels_of-levels.result ≡ sd.seat.levels = subst (λ ss. AreLevels ss c.args.s c.levels_of-levels.result) c.as_slice.ensures.value c.levels_of-levels.ensures sd.seat sd.there in
    let after : c.roll_back.new.tx.contents ≡ after_rollback c.close_levels.new.tx.contents (named_at c.args.s 0) =
    sym (ap (λ (o : Outcome Base Made). o.state.data_now) (c.roll_back.ensures.exact.is 0)) ∙ ap (after_rollback c.close_levels.new.tx.contents) c.own_of.ensures in
    subst (λ ss. Leaves used c.roll_back.new.tx.contents ss Done (reply_leave db c.args.s x)) (sym (c.empty_seat.ensures sd.seat sd.there))
    (all_left used c.args.tx.now.contents c.args.seats.now.items db c.args.s x h there c.close_levels.new.tx.contents c.roll_back.new.tx.contents
    (c.close_levels.ensures.contents ∙ ap (λ n. closed_from_top n c.args.s c.args.tx.now.contents) levels) c.close_levels.ensures.stack c.close_levels.ensures.others
    after c.roll_back.ensures.stacks c.roll_back.ensures.storable)
