use Rattle.std.proofs.Common.{sym, ◌∙◌}
use Rattle.ebr_base.specs.declared.object.ObjectKey.{ObjectKey}
use Rattle.ebr_base.specs.Keys.{same_key}
use Rattle.ebr_ast.specs.declared.view.Object.{Object}
use Rattle.ebr_names.proofs.Halving.{found-at, found-none}
use Rattle.ebr_names.proofs.lookup.shared_object.Goals as goal

pub returns-in-Some : goal.returns-in-Some
returns-in-Some c =
    let key : ObjectKey = record { class = c.args.class; name = c.args.name.now } in
    c.get.ensures ∙ sym (found-at (λ (o : Object). same_key key o.key) c.args.v.now.objects c.in-Some.place (sym c.in-Some.ensures.place))

pub returns-in-None : goal.returns-in-None
returns-in-None c =
    let key : ObjectKey = record { class = c.args.class; name = c.args.name.now } in
    sym (found-none (λ (o : Object). same_key key o.key) c.args.v.now.objects (sym c.in-None.ensures.place))
