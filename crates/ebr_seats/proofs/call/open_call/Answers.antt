use Rattle.std.proofs.Common.{subst, sym, ap, ◌∙◌}
use Rattle.ebr_tx.specs.Data.{IsLive}
use Rattle.ebr_tx.specs.Calls.{IsMarkOf, mark_of}
use Rattle.ebr_seats.specs.Ends.{call_opened}
use Rattle.ebr_seats.specs.Seats.{Holds}
use Rattle.ebr_seats.proofs.Calls.{opened}
use Rattle.ebr_seats.proofs.Live.{has_seat, own_lives}
use Rattle.ebr_seats.proofs.Replies.{held}
use Rattle.ebr_seats.proofs.call.open_call.Goals as goal

pub mark-requires : goal.mark-requires
mark-requires c = subst (IsLive c.args.tx.now.contents) (sym c.own_of.ensures) (own_lives c.args.tx.now.contents c.args.seats.now.items c.args.s c.requires)

pub put_mark-requires : goal.put_mark-requires
put_mark-requires c = has_seat c.args.tx.now.contents c.args.seats.now.items c.args.s c.requires

pub returns-clause-opened : goal.returns-clause-opened
returns-clause-opened c = λ used db x h there.
    let sd = held used c.args.tx.now.contents c.args.seats.now.items db c.args.s x h there in
    subst (λ ss. Holds used c.args.tx.now.contents ss (call_opened db c.args.s x)) (sym (c.put_mark.ensures sd.seat sd.there))
    (opened used c.args.tx.now.contents c.args.seats.now.items db c.args.s x h there c.in_ok-mark.mark
    (c.in_ok-mark.ensures.mark ∙ ap (mark_of c.args.tx.now.contents) c.own_of.ensures)
    (subst (λ t. IsMarkOf c.args.tx.now.contents t c.in_ok-mark.mark) c.own_of.ensures c.in_ok-mark.ensures.later))
