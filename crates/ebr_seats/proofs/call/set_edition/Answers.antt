use Rattle.std.proofs.Common.{subst, sym}
use Rattle.ebr_database.specs.Database.{with_session}
use Rattle.std.proofs.Common.{Some}
use Rattle.ebr_seats.specs.Seats.{Holds}
use Rattle.ebr_seats.proofs.Calls.{edition_set}
use Rattle.ebr_seats.proofs.Replies.{held}
use Rattle.ebr_seats.proofs.call.set_edition.Goals as goal

pub returns : goal.returns
returns c = λ d used db x h there.
    let sd = held used d c.args.seats.now.items db c.args.s x h there in
    subst (λ ss. Holds used d ss (with_session db c.args.s (record x { edition = Some c.args.e }))) (sym (c.put_edition.ensures sd.seat sd.there))
    (edition_set used d c.args.seats.now.items db c.args.s x h there c.args.e)
