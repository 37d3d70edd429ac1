use Rattle.std.proofs.Common.{ap, sym, ◌∙◌, true, false, is_some, Ok}
use Rattle.ebr_editions.proofs.Entries.{is_some-copied}
use Rattle.ebr_editions.proofs.Count.{hide-seen}
use Rattle.ebr_editions.proofs.actuals.Actuals.hide.Goals as goal

pub returns-then-is_none-clause-answer : goal.returns-then-is_none-clause-answer
returns-then-is_none-clause-answer g c = λ entries h.
    hide-seen c.args.chain.now.made c.args.self.now entries c.args.e c.args.key.now false h (ap is_some (sym c.seen.ensures) ∙ (is_some-copied c.seen.result ∙ c.if-is_none.ensures))

pub returns-clause-answer : goal.returns-clause-answer
returns-clause-answer g c = λ entries h.
    hide-seen c.args.chain.now.made c.args.self.now entries c.args.e c.args.key.now true h (ap is_some (sym c.seen.ensures) ∙ (is_some-copied c.seen.result ∙ c.if-is_none.ensures))
    ∙ ap Ok (sym c.in_ok-add.ensures.stamp)
