use Rattle.std.proofs.Common.{refl}
use Rattle.ebr_database.specs.Database.{base_in, on_top, reply_commit}
use Rattle.ebr_levels.proofs.ReplyLemmas.{early_commit}
use Rattle.ebr_core.proofs.HeldAgain.{finishes_on}
use Rattle.ebr_core.proofs.MadeRecords.{commit_makes}
use Rattle.ebr_core.proofs.asks.commit.Goals as goal

pub returns : goal.returns
returns g c = λ db e x h has.
    finishes_on g.K.Keep.as_keeper c.args.current.now _ db h refl refl refl (reply_commit db c.args.s x) refl (early_commit db c.args.s h.early x has.there (c.asks_are_read_back.ensures db)) (commit_makes (on_top db c.args.s) (base_in db)) c.commit_top.result
    (c.commit_top.ensures (g.K.Keep.as_keeper c.args.current.now.world.keeper).used db x h.seated has.there refl)
