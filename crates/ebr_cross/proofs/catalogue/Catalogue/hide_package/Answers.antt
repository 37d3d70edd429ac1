use Rattle.std.proofs.Common.{ap, ◌∙◌}
use Rattle.ebr_ast.specs.declared.definition.ObjectKind.TheVariants as kind
use Rattle.ebr_editions.specs.Editions.{Editions}
use Rattle.ebr_editions.specs.Held.{held}
use Rattle.ebr_editions.specs.Objects.{without_both}
use Rattle.ebr_cross.specs.Kinds.{key_of}
use Rattle.ebr_cross.proofs.Changes.{chain-of}
use Rattle.ebr_cross.proofs.ObjectPuts.{actuals-of, with-entries}
use Rattle.ebr_cross.proofs.catalogue.Catalogue.hide_package.Goals as goal

pub returns : goal.returns
returns c = λ lists h.
    let made = c.args.self.now.chain.made in
    with-entries c.args.self.now lists c.enter_drops.new.self (without_both lists.editions.made lists.entries c.args.e (key_of kind.Package c.args.name.now) (key_of kind.PackageBody c.args.name.now)) h
    (c.in_ok-enter_drops.ensures.hidden lists.entries (actuals-of c.args.self.now lists h)
    ∙ (ap (λ k. held (without_both made lists.entries c.args.e k c.in_ok-body.body)) c.in_ok-key.ensures
    ∙ (ap (λ k. held (without_both made lists.entries c.args.e (key_of kind.Package c.args.name.now) k)) c.in_ok-body.ensures
    ∙ ap (λ (v : Editions). held (without_both v.made lists.entries c.args.e (key_of kind.Package c.args.name.now) (key_of kind.PackageBody c.args.name.now))) (chain-of c.args.self.now lists h))))
