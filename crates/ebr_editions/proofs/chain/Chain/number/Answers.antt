use Rattle.std.proofs.Common.{◌≡◌, ap, sym, subst, ◌∙◌, IfSome, true}
use Rattle.ebr_editions.specs.Editions.{Editions, edition_named, is_living}
use Rattle.ebr_editions.proofs.Index.{number-is, number-lives}
use Rattle.ebr_editions.proofs.chain.Chain.number.Goals as goal

pub returns-clause-number : goal.returns-clause-number
returns-clause-number c =
    c.copied.ensures
    ∙ (c.get.ensures.value
    ∙ (number-is _ _ _ c.self.invariant c.args.n.now ∙ ap (λ (v : Editions). edition_named v.made c.args.n.now) c.self.view_is))

pub returns-clause-lives : goal.returns-clause-lives
returns-clause-lives c =
    subst (λ r. IfSome r (λ e. is_living c.args.self.now.made e ≡ true)) (sym (returns-clause-number c))
    (subst (λ (v : Editions). IfSome (edition_named v.made c.args.n.now) (λ e. is_living v.made e ≡ true)) c.self.view_is (number-lives _ _ _ c.self.invariant c.args.n.now))
