use Rattle.std.proofs.Common.{refl, sym, append-nil}
use Rattle.ebr_seats.specs.Ends.{reply_end}
use Rattle.ebr_levels.proofs.ReplyLemmas.{early_end}
use Rattle.ebr_core.proofs.HeldAgain.{leaves_on}
use Rattle.ebr_core.proofs.asks.end.Goals as goal

pub returns : goal.returns
returns g c = λ db e x h has on_top.
    leaves_on g.K.Keep.as_keeper c.args.current.now _ db h refl refl refl (reply_end db c.args.s x c.args.failed) (sym (append-nil db.records)) (early_end db c.args.s h.early x has.there c.args.failed) refl _
    (c.end_call.ensures (g.K.Keep.as_keeper c.args.current.now.world.keeper).used db x h.seated has.there on_top)
