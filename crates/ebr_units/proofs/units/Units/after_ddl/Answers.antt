use Rattle.std.proofs.Common.{ap, subst}
use Rattle.ebr_ast.specs.declared.view.Object.{Object}
use Rattle.ebr_editions.specs.Editions.{IsLine}
use Rattle.ebr_cross.specs.declared.catalogue.Catalogue.{Catalogue}
use Rattle.ebr_units.proofs.Unchanged.{after-gone, before-edition, before-object, before-gone, before-package}
use Rattle.ebr_units.proofs.units.Units.after_ddl.Goals as goal

pub returns-in-EditionGone : goal.returns-in-EditionGone
returns-in-EditionGone c = λ lists own all is. after-gone lists c.args.made.now _ _ c.in-EditionGone.is all

pub returns-in-Edition : goal.returns-in-Edition
returns-in-Edition c = λ lists own all is.
    before-edition lists c.args.made.now _ _ _ c.args.c.now.chain _ c.in-Edition.is (ap (λ (n : Catalogue). n.chain) is) c.keep_before.ensures.line c.leaf.ensures.leaf c.keep_before.ensures.before
    (c.keep_before.ensures.current lists all)

pub returns-in-Object : goal.returns-in-Object
returns-in-Object c = λ lists own all is.
    let k = c.keep_before-in-Object.ensures in
    before-object lists c.args.made.now _ _ _ c.in-Object.is (ap (λ (o : Object). o.stamp.edition) c.get.ensures) (subst (λ (n : Catalogue). IsLine n.chain) is k.line) k.before (k.current lists all)

pub returns-in-ObjectGone : goal.returns-in-ObjectGone
returns-in-ObjectGone c = λ lists own all is.
    let k = c.keep_before-in-ObjectGone.ensures in
    before-gone lists c.args.made.now _ _ _ c.in-ObjectGone.is (subst (λ (n : Catalogue). IsLine n.chain) is k.line) k.before (k.current lists all)

pub returns-in-PackageGone : goal.returns-in-PackageGone
returns-in-PackageGone c = λ lists own all is.
    let k = c.keep_before-in-PackageGone.ensures in
    before-package lists c.args.made.now _ _ _ c.in-PackageGone.is (subst (λ (n : Catalogue). IsLine n.chain) is k.line) k.before (k.current lists all)
