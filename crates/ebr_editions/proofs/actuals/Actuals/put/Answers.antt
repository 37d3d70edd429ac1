use Rattle.std.proofs.Common.{ap, sym, ◌∙◌, Ok}
use Rattle.ebr_editions.proofs.Count.{put-full, put-clear}
use Rattle.ebr_editions.proofs.actuals.Actuals.put.Goals as goal

pub returns-then-is_full-clause-answer : goal.returns-then-is_full-clause-answer
returns-then-is_full-clause-answer g c = λ entries h.
    put-full c.args.chain.now.made c.args.self.now entries c.args.e c.args.key c.args.o h (sym c.is_full.ensures ∙ c.if-is_full.true)

pub returns-clause-answer : goal.returns-clause-answer
returns-clause-answer g c = λ entries h.
    put-clear c.args.chain.now.made c.args.self.now entries c.args.e c.args.key c.args.o h (sym c.is_full.ensures ∙ c.if-is_full.false)
    ∙ ap Ok (sym c.in_ok-add.ensures.stamp)
