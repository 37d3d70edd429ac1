use Rattle.std.proofs.Common.{◌<◌, IfOk, ap, subst}
use Rattle.ebr_ast.specs.declared.view.EditionView.{EditionView}
use Rattle.ebr_editions.specs.Editions.{leaf}
use Rattle.ebr_cross.specs.declared.catalogue.Catalogue.{Catalogue}
use Rattle.ebr_cross.specs.Catalogue.{IsViewOf}
use Rattle.ebr_cross.specs.Records.{ForChanged, with_record}
use Rattle.ebr_cross.proofs.Applied.{if_ok-map}
use Rattle.ebr_cross.proofs.Seen.{after-edition, after-edition-gone, after-default}
use Rattle.ebr_cross.proofs.changed.view_after.Goals as goal

pub returns-in-EditionGone : goal.returns-in-EditionGone
returns-in-EditionGone c = λ lists own seen h.
    if_ok-map c.clone_in.result (λ v copy. after-edition-gone lists c.args.record.now _ c.args.view.now v c.in-EditionGone.is seen.is seen.order copy) c.clone_in.ensures

pub returns-in-Default : goal.returns-in-Default
returns-in-Default c = λ lists own seen h.
    if_ok-map c.clone_in-in-Default.result (λ v copy. after-default lists c.args.record.now _ c.args.view.now v c.in-Default.is seen.is seen.order copy) c.clone_in-in-Default.ensures

pub returns-in-Edition : goal.returns-in-Edition
returns-in-Edition c = λ lists own seen h.
    let before = subst (λ (w : EditionView). w.edition.0 < (leaf c.args.c.now.chain.made).0) c.get-seen.ensures (c.is_before_leaf.ensures.before c.if-is_before_leaf.true) in
    if_ok-map c.clone_in-in-Edition.result
    (λ v copy. after-edition lists c.args.record.now _ _ c.args.c.now.chain c.args.view.now v c.in-Edition.is (ap (λ (n : Catalogue). n.chain) h) c.is_before_leaf.ensures.line before seen.is seen.order copy)
    c.clone_in-in-Edition.ensures

pub returns-in_default : goal.returns-in_default
returns-in_default c =
    subst (λ (w : EditionView). ForChanged c.args.c.now w c.args.record.now (λ lists. IfOk c.changed.result (λ v. IsViewOf (with_record lists c.args.record.now) w.edition v))) c.get-seen.ensures c.changed.ensures
