use Rattle.std.proofs.Common.{ap, sym, ◌∙◌, Ok}
use Rattle.ebr_editions.proofs.Count.{put-full, put-clear}
use Rattle.ebr_editions.proofs.actuals.Actuals.put_answer.Goals as goal

pub returns-then-is_full : goal.returns-then-is_full
returns-then-is_full g c = λ entries h.
    sym (put-full c.args.chain.now.made c.args.self.now entries c.args.e c.args.key.now c.args.o.now h (sym c.is_full.ensures ∙ c.if-is_full.true))

pub returns : goal.returns
returns g c = λ entries h.
    ap Ok c.stamp.ensures.stamp
    ∙ sym (put-clear c.args.chain.now.made c.args.self.now entries c.args.e c.args.key.now c.args.o.now h (sym c.is_full.ensures ∙ c.if-is_full.false))
