use Rattle.std.proofs.Common.{◌≡◌, ℕ, suc, ◌+◌, ap, sym, subst, ◌∙◌, List, option_map, arith}
use Rattle.std.specs.List.{slice_get}
use Rattle.std.proofs.lemmas.Option.{slice_get_past}
use Rattle.ebr_base.specs.declared.numbers.EditionNo.{EditionNo}
use Rattle.ebr_editions.specs.Editions.{Editions}
use Rattle.ebr_editions.specs.inside.Chain.{IsIndexed}
use Rattle.ebr_editions.proofs.Lists.{false_true}
use Rattle.ebr_editions.proofs.Index.{child-gone, child-at, name-found, index-length}
use Rattle.ebr_editions.proofs.chain.Chain.child.Goals as goal

pub returns-then-not-lives : goal.returns-then-not-lives
returns-then-not-lives c =
    let s = subst (λ (v : Editions). IsIndexed v.made c.self.inside.living.entries v.default) c.self.view_is c.self.invariant in
    sym (child-gone _ _ _ s c.args.e (sym c.if-not-lives.ensures))

pub returns-in_err-at : goal.returns-in_err-at
returns-in_err-at c =
    let s = subst (λ (v : Editions). IsIndexed v.made c.self.inside.living.entries v.default) c.self.view_is c.self.invariant in
    false_true (c.in_err-at.ensures.found ∙ name-found _ _ _ s c.args.e c.in_ok-name.field-0.now (sym c.in_ok-name.ensures) (sym c.if-not-lives.ensures))

pub returns-then-count-at : goal.returns-then-count-at
returns-then-count-at c =
    let s = subst (λ (v : Editions). IsIndexed v.made c.self.inside.living.entries v.default) c.self.view_is c.self.invariant in
    let past = slice_get_past c.self.inside.living.entries (suc c.in_ok-at.at) (omega (arith, c.if-count-at.true, c.count.ensures, index-length _ _ _ s)) in
    sym (ap (option_map (λ (p : List ℕ × EditionNo). p.1)) past)
    ∙ child-at _ _ _ s c.args.e c.in_ok-name.field-0.now c.in_ok-at.at (sym c.in_ok-name.ensures) (sym c.if-not-lives.ensures) c.in_ok-at.ensures.unique (sym c.in_ok-at.ensures.index)

pub returns : goal.returns
returns c =
    let s = subst (λ (v : Editions). IsIndexed v.made c.self.inside.living.entries v.default) c.self.view_is c.self.invariant in
    let after : c.in_ok-at.at + 1 ≡ suc c.in_ok-at.at = omega arith in
    ap (option_map (λ (p : List ℕ × EditionNo). p.1)) (c.in_ok-child.ensures.entry ∙ ap (slice_get c.self.inside.living.entries) after)
    ∙ child-at _ _ _ s c.args.e c.in_ok-name.field-0.now c.in_ok-at.at (sym c.in_ok-name.ensures) (sym c.if-not-lives.ensures) c.in_ok-at.ensures.unique (sym c.in_ok-at.ensures.index)
