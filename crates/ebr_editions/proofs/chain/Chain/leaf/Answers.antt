use Rattle.std.proofs.Common.{◌≡◌, sym, subst, true, refl}
use Rattle.ebr_editions.specs.Editions.{Editions, leaf, is_living}
use Rattle.ebr_editions.proofs.Lists.{false_true}
use Rattle.ebr_editions.proofs.Index.{leaf-is, place-lives, not-empty}
use Rattle.ebr_editions.proofs.chain.Chain.leaf.Goals as goal

pub returns-in-Some-clause-leaf : goal.returns-in-Some-clause-leaf
returns-in-Some-clause-leaf c =
    subst (λ (v : Editions). c.in-Some.e.now ≡ leaf v.made) c.self.view_is
    (leaf-is _ _ _ c.self.invariant _ (c.in-Some.field-0-0.now, c.in-Some.e.now) refl (sym c.in-Some.ensures.entry))

pub returns-in-Some-clause-lives : goal.returns-in-Some-clause-lives
returns-in-Some-clause-lives c =
    subst (λ (v : Editions). is_living v.made c.in-Some.e.now ≡ true) c.self.view_is
    (place-lives _ _ _ c.self.invariant _ (c.in-Some.field-0-0.now, c.in-Some.e.now) (sym c.in-Some.ensures.entry))

pub returns-in-None-clause-lives : goal.returns-in-None-clause-lives
returns-in-None-clause-lives c = false_true (c.in-None.ensures.found.1 (not-empty _ _ _ c.self.invariant))
