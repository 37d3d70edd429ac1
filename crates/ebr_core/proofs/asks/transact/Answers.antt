use Rattle.std.proofs.Common.{subst, sym}
use Rattle.ebr_asks.specs.declared.answer.Answer.TheVariants.{Done}
use Rattle.ebr_core.specs.Machine.{reply_in}
use Rattle.ebr_core.specs.inside.Held.{IsReplied, Replies, answered}
use Rattle.ebr_core.proofs.Placed.{placed_level, placed_call}
use Rattle.ebr_core.proofs.asks.transact.Goals as goal

pub pop-requires-clause-level : goal.pop-requires-clause-level
pop-requires-clause-level g c = placed_level g.K.Keep.as_keeper c.args.current.now c.args.s c.requires.held c.args.ask.now _ c.in-PopAuto.is c.requires.placed

pub returns-in-Rollback : goal.returns-in-Rollback
returns-in-Rollback g c = λ db e x h has.
    subst (λ a. IsReplied g.K.Keep.as_keeper c.args.current.now c.roll_back.new.current Done (reply_in e db c.args.s x a)) (sym c.in-Rollback.is) (c.roll_back.ensures db e x h has)

pub returns-in-BackTo : goal.returns-in-BackTo
returns-in-BackTo g c = λ db e x h has.
    subst (λ a. Replies g.K.Keep.as_keeper c.args.current.now c.back_to.new.current (answered c.back_to.result) (reply_in e db c.args.s x a)) (sym c.in-BackTo.is) (c.back_to.ensures db e x h has)

pub returns-in-PushAuto : goal.returns-in-PushAuto
returns-in-PushAuto g c = λ db e x h has.
    subst (λ a. Replies g.K.Keep.as_keeper c.args.current.now c.push.new.current (answered c.push.result) (reply_in e db c.args.s x a)) (sym c.in-PushAuto.is)
    (c.push.ensures db e x h has (placed_call g.K.Keep.as_keeper c.args.current.now c.args.s c.args.ask.now c.in-PushAuto.is c.requires.placed db e x h has))
