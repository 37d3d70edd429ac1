use Rattle.std.proofs.Common.{refl, Ok, subst}
use Rattle.ebr_database.specs.Database.{as_answer, reply_savepoint}
use Rattle.ebr_seats.specs.Seats.{ForSession, Leaves}
use Rattle.ebr_levels.proofs.ReplyLemmas.{early_savepoint}
use Rattle.ebr_core.proofs.HeldAgain.{leaves_on, wants_to_do}
use Rattle.ebr_core.proofs.asks.savepoint.Goals as goal

pub returns-in_err-savepoint_top : goal.returns-in_err-savepoint_top
returns-in_err-savepoint_top g c = λ db e x h has.
    wants_to_do g.K.Keep.as_keeper c.args.current.now _ (reply_savepoint db c.args.s x c.args.name.now) refl c.from_residual.result c.from_residual.ensures.1

pub returns : goal.returns
returns g c = λ db e x h has.
    leaves_on g.K.Keep.as_keeper c.args.current.now _ db h refl refl refl (reply_savepoint db c.args.s x c.args.name.now) refl (early_savepoint db c.args.s h.early x has.there (c.asks_are_read_back.ensures db) c.args.name.now) refl _
    (subst (λ ss. ForSession c.args.current.now.world.tx.contents ss c.args.s (λ used db x. Leaves used c.savepoint_top.new.tx.contents ss (as_answer (Ok tt)) (reply_savepoint db c.args.s x c.args.name.now)))
    c.as_slice.ensures.value c.in_ok-savepoint_top.ensures.exact (g.K.Keep.as_keeper c.args.current.now.world.keeper).used db x h.seated has.there)
