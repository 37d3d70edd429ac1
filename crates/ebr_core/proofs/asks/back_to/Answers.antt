use Rattle.std.proofs.Common.{refl}
use Rattle.ebr_database.specs.Database.{reply_back_to}
use Rattle.ebr_levels.proofs.ReplyLemmas.{early_back_to}
use Rattle.ebr_core.proofs.HeldAgain.{may_fail}
use Rattle.ebr_core.proofs.asks.back_to.Goals as goal

pub returns : goal.returns
returns g c = λ db e x h has.
    may_fail g.K.Keep.as_keeper c.args.current.now _ db h refl refl refl (reply_back_to db c.args.s x c.args.name.now) refl (early_back_to db c.args.s h.early x has.there (c.asks_are_read_back.ensures db) c.args.name.now) refl c.back_to_top.result _ c.failed.ensures
    (c.back_to_top.ensures (g.K.Keep.as_keeper c.args.current.now.world.keeper).used db x h.seated has.there)
