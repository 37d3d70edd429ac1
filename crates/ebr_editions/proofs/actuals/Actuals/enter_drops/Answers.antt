use Rattle.std.proofs.Common.{ap, sym, ◌∙◌, true, false, is_some, None}
use Rattle.ebr_base.specs.declared.object.ObjectKey.{ObjectKey}
use Rattle.ebr_editions.specs.Held.{held, hold}
use Rattle.ebr_editions.specs.Objects.{with_entry}
use Rattle.ebr_editions.proofs.Entries.{is_some-copied, on_ok}
use Rattle.ebr_editions.proofs.Count.{seen-is, one-hidden, both-hidden}
use Rattle.ebr_editions.proofs.actuals.Actuals.enter_drops.Goals as goal

pub returns-then-is_none-clause-hidden : goal.returns-then-is_none-clause-hidden
returns-then-is_none-clause-hidden g c =
    let none = ap is_some (sym c.seen.ensures) ∙ (is_some-copied c.seen.result ∙ c.if-is_none.ensures) in
    on_ok c.enter.result
    (λ f entries h. f entries h ∙ (ap (λ k. held (with_entry entries c.args.e k None)) c.in_ok-copy.ensures
    ∙ ap held (one-hidden c.args.chain.now.made entries c.args.e c.args.first.now c.args.second.now (seen-is c.args.chain.now.made c.args.self.now entries c.args.e c.args.second.now false h none))))
    c.enter.ensures.made

pub returns-clause-hidden : goal.returns-clause-hidden
returns-clause-hidden g c = λ entries h.
    let some = ap is_some (sym c.seen.ensures) ∙ (is_some-copied c.seen.result ∙ c.if-is_none.ensures) in
    let pair = c.in_ok-copies.ensures in
    c.in_ok-hide_two.ensures.held
    ∙ (ap (λ (p : ObjectKey × ObjectKey). hold (hold c.args.self.now c.args.e p.0 None) c.args.e p.1 None) pair
    ∙ both-hidden c.args.chain.now.made c.args.self.now entries c.args.e c.args.first.now c.args.second.now h (seen-is c.args.chain.now.made c.args.self.now entries c.args.e c.args.second.now true h some))
