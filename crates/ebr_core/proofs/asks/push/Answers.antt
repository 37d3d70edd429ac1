use Rattle.std.proofs.Common.{refl}
use Rattle.ebr_database.specs.Database.{reply_push}
use Rattle.ebr_levels.proofs.ReplyLemmas.{early_push}
use Rattle.ebr_core.proofs.HeldAgain.{may_fail}
use Rattle.ebr_core.proofs.asks.push.Goals as goal

pub returns : goal.returns
returns g c = λ db e x h has in_call.
    may_fail g.K.Keep.as_keeper c.args.current.now _ db h refl refl refl (reply_push db c.args.s x) refl (early_push db c.args.s h.early x has.there (c.asks_are_read_back.ensures db)) refl c.push_top.result _ c.failed.ensures
    (c.push_top.ensures (g.K.Keep.as_keeper c.args.current.now.world.keeper).used db x h.seated has.there in_call)
