use Rattle.std.proofs.Common.{subst, sym}
use Rattle.ebr_asks.specs.declared.answer.Answer.TheVariants.{Done}
use Rattle.ebr_core.specs.Machine.{reply_in}
use Rattle.ebr_core.specs.inside.Held.{IsReplied}
use Rattle.ebr_core.proofs.Placed.{placed_end}
use Rattle.ebr_core.proofs.current.reply_plainly.Goals as goal

pub returns-in-EndCall : goal.returns-in-EndCall
returns-in-EndCall g c = λ db e x h has same.
    subst (λ a. IsReplied g.K.Keep.as_keeper c.args.current.now c.end.new.current Done (reply_in e db c.args.s x a)) (sym c.in-EndCall.is)
    (c.end.ensures db e x h has (placed_end g.K.Keep.as_keeper c.args.current.now c.args.s c.args.ask.now c.in-EndCall.failed c.in-EndCall.is c.requires.placed db e x h has))
