use Rattle.std.proofs.Common.{refl}
use Rattle.ebr_database.specs.Database.{reply_pop}
use Rattle.ebr_levels.proofs.ReplyLemmas.{early_pop}
use Rattle.ebr_core.proofs.HeldAgain.{may_refuse}
use Rattle.ebr_core.proofs.asks.pop.Goals as goal

pub returns : goal.returns
returns g c = λ db e x h has.
    may_refuse g.K.Keep.as_keeper c.args.current.now _ db h refl refl refl (reply_pop db c.args.s x c.args.failed) refl (early_pop db c.args.s h.early x has.there (c.asks_are_read_back.ensures db) c.args.failed) refl c.pop_top.result _ c.refused_by.ensures
    (c.pop_top.ensures (g.K.Keep.as_keeper c.args.current.now.world.keeper).used db x h.seated has.there)
