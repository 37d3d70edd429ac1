use Rattle.std.proofs.Common.{◌≡◌}
use Rattle.ebr_cross.specs.declared.record.CatalogueRecord.TheVariants as made
use Rattle.ebr_cross.specs.Records.{with_record}
use Rattle.ebr_cross.proofs.Applied.{if_ok-map}
use Rattle.ebr_cross.proofs.OwnKeys.{own_kept}
use Rattle.ebr_cross.proofs.Seen.{sorted-view, after-package-in, sorted-first-in, if-anew}
use Rattle.ebr_cross.proofs.changed.after_package.Goals as goal

pub returns-then-is_same : goal.returns-then-is_same
returns-then-is_same c = λ lists own seen h.
    let is = seen.is in
    let same : c.args.e ≡ c.args.view.now.edition = c.is_same.ensures.0 c.if-is_same.true in
    if_ok-map c.without_package.result
    (λ v shows. after-package-in lists c.args.e c.args.name.now c.args.view.now v own same is shows)
    (c.without_package.ensures (sorted-view lists c.args.view.now own is) (with_record lists (made.PackageGone c.args.e c.args.name.now)) h (sorted-first-in lists c.args.e c.args.name.now c.args.view.now own same is))

pub returns : goal.returns
returns c = λ lists own seen h.
    let is = seen.is in
    let r = made.PackageGone c.args.e c.args.name.now in
    if-anew (with_record lists r) c.args.view.now.edition c.made_anew.result (c.made_anew.ensures.view (with_record lists r) h) (c.made_anew.ensures.order (with_record lists r) h (own_kept lists r own))
