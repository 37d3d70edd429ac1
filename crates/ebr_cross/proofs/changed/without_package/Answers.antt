use Rattle.std.proofs.Common.{◌≡◌, map, IfOk, sym, ap, ◌∙◌, subst}
use Rattle.std.specs.List.Sorted.{IsStrictlySortedBy}
use Rattle.ebr_base.specs.Keys.{key_order}
use Rattle.ebr_ast.specs.Views as views
use Rattle.ebr_ast.specs.declared.definition.ObjectKind.TheVariants as kind
use Rattle.ebr_cross.specs.Kinds.{key_of}
use Rattle.ebr_cross.specs.inside.Places.{with_seen, Shows}
use Rattle.ebr_cross.proofs.changed.without_package.Goals as goal

pub returns : goal.returns
returns c = λ up lists h up_first.
    let e = c.args.view.now.edition in
    let first : c.in_ok-first.first ≡ with_seen lists e (key_of kind.Package c.args.name.now) c.args.view.now.objects =
    c.in_ok-first.ensures up lists h ∙ ap (λ k. with_seen lists e k c.args.view.now.objects) c.in_ok-package.ensures in
    let sorted : IsStrictlySortedBy key_order (map views.key_of c.in_ok-first.first) = subst (λ objects. IsStrictlySortedBy key_order (map views.key_of objects)) (sym first) up_first in
    subst (λ objects. IfOk c.with_objects.result (λ v. Shows e objects c.args.view.now.tables v))
    (c.in_ok-objects.ensures sorted lists h ∙ (ap (λ k. with_seen lists e k c.in_ok-first.first) c.in_ok-body.ensures ∙ ap (with_seen lists e (key_of kind.PackageBody c.args.name.now)) first))
    c.with_objects.ensures
