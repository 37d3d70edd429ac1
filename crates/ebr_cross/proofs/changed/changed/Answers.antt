use Rattle.std.proofs.Common.{Some, IfOk, sym, ap, ◌∙◌, subst}
use Rattle.ebr_ast.specs.declared.view.Object.{Object}
use Rattle.ebr_cross.specs.declared.record.CatalogueRecord.TheVariants as made
use Rattle.ebr_cross.specs.Catalogue.{IsViewOf, View}
use Rattle.ebr_cross.specs.Records.{ForChanged, with_record}
use Rattle.ebr_cross.proofs.Applied.{if_ok-map}
use Rattle.ebr_cross.proofs.OwnKeys.{own_kept}
use Rattle.ebr_cross.proofs.Seen.{sorted-view, after-object, after-table, if-anew}
use Rattle.ebr_cross.proofs.changed.changed.Goals as goal

pub returns-in-Object : goal.returns-in-Object
returns-in-Object c = λ lists own seen h.
    let is = seen.is in
    if_ok-map c.with_key.result
    (λ v shows. after-object lists c.args.record.now _ _ (Some c.get.result.now) c.args.view.now v own
    (ap (with_record lists) c.in-Object.is ∙ ap (λ (o : Object). with_record lists (made.Object o)) (sym c.get.ensures)) is shows)
    (c.with_key.ensures (sorted-view lists c.args.view.now own is) (with_record lists c.args.record.now) h)

pub returns-in-ObjectGone : goal.returns-in-ObjectGone
returns-in-ObjectGone c = λ lists own seen h.
    let is = seen.is in
    if_ok-map c.with_key-in-ObjectGone.result
    (λ v shows. after-object lists c.args.record.now _ _ _ c.args.view.now v own (ap (with_record lists) c.in-ObjectGone.is) is shows)
    (c.with_key-in-ObjectGone.ensures (sorted-view lists c.args.view.now own is) (with_record lists c.args.record.now) h)

pub returns-in-PackageGone : goal.returns-in-PackageGone
returns-in-PackageGone c =
    subst (λ r. ForChanged c.args.c.now c.args.view.now r (λ lists. IfOk c.after_package.result (λ v. IsViewOf (with_record lists r) c.args.view.now.edition v))) (sym c.in-PackageGone.is) c.after_package.ensures

pub returns-in-Table : goal.returns-in-Table
returns-in-Table c = λ lists own seen h.
    let is = seen.is in
    if_ok-map c.with_tables.result
    (λ v shows. after-table lists (with_record lists c.args.record.now) c.args.view.now v (own_kept lists c.args.record.now own) (ap (λ r. (View (with_record lists r) c.args.view.now.edition).objects) c.in-Table.is) is shows)
    (c.with_tables.ensures (with_record lists c.args.record.now) h)

pub returns-in-Column : goal.returns-in-Column
returns-in-Column c = λ lists own seen h.
    let is = seen.is in
    if_ok-map c.with_tables-in-Column.result
    (λ v shows. after-table lists (with_record lists c.args.record.now) c.args.view.now v (own_kept lists c.args.record.now own) (ap (λ r. (View (with_record lists r) c.args.view.now.edition).objects) c.in-Column.is) is shows)
    (c.with_tables-in-Column.ensures (with_record lists c.args.record.now) h)

pub returns-in-TableGone : goal.returns-in-TableGone
returns-in-TableGone c = λ lists own seen h.
    let is = seen.is in
    if_ok-map c.with_tables-in-TableGone.result
    (λ v shows. after-table lists (with_record lists c.args.record.now) c.args.view.now v (own_kept lists c.args.record.now own) (ap (λ r. (View (with_record lists r) c.args.view.now.edition).objects) c.in-TableGone.is) is shows)
    (c.with_tables-in-TableGone.ensures (with_record lists c.args.record.now) h)

pub returns-in_default : goal.returns-in_default
returns-in_default c = λ lists own seen h.
    let is = seen.is in
    if-anew (with_record lists c.args.record.now) c.args.view.now.edition c.made_anew.result (c.made_anew.ensures.view (with_record lists c.args.record.now) h)
    (c.made_anew.ensures.order (with_record lists c.args.record.now) h (own_kept lists c.args.record.now own))
