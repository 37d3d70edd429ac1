use Rattle.std.proofs.Common.{subst, sym}
use Rattle.ebr_asks.specs.declared.ask.Ask.TheVariants.{Leave}
use Rattle.ebr_asks.specs.declared.answer.Answer.TheVariants.{Done}
use Rattle.ebr_core.specs.Machine.{Reply}
use Rattle.ebr_core.specs.inside.Held.{IsReplied}
use Rattle.ebr_core.proofs.parts.Parts.leave.Goals as goal

pub returns-clause-reply : goal.returns-clause-reply
returns-clause-reply g c = λ db e x h has.
    subst (λ now. IsReplied g.K.Keep.as_keeper c.args.self.now.current now Done (Reply db c.args.s Leave)) (sym c.add.ensures.current) (c.counted_leave.ensures db e x h has)
