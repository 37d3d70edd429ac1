use Rattle.std.proofs.Common.{refl}
use Rattle.ebr_database.specs.Database.{reply_rollback}
use Rattle.ebr_levels.proofs.ReplyLemmas.{early_rollback}
use Rattle.ebr_core.proofs.HeldAgain.{leaves_on}
use Rattle.ebr_core.proofs.asks.roll_back.Goals as goal

pub returns : goal.returns
returns g c = λ db e x h has.
    leaves_on g.K.Keep.as_keeper c.args.current.now _ db h refl refl refl (reply_rollback db c.args.s x) refl (early_rollback db c.args.s h.early x has.there (c.asks_are_read_back.ensures db)) refl _
    (c.roll_back_top.ensures (g.K.Keep.as_keeper c.args.current.now.world.keeper).used db x h.seated has.there)
