use Rattle.std.proofs.Common.{sym, ◌∙◌}
use Rattle.ebr_base.specs.declared.object.ObjectKey.{ObjectKey}
use Rattle.ebr_base.specs.Keys.{same_key}
use Rattle.ebr_ast.specs.declared.view.Object.{Object}
use Rattle.ebr_ast.specs.Views.{key_of}
use Rattle.ebr_names.proofs.Halving.{same-equal, key_total, searched}
use Rattle.ebr_names.proofs.lookup.place.Goals as goal

pub returns-clause-place : goal.returns-clause-place
returns-clause-place c =
    let key : ObjectKey = record { class = c.args.class; name = c.args.name.now } in
    c.ok.ensures.value ∙ sym (searched key_total key_of key (λ (o : Object). same_key key o.key) (λ o. same-equal key o.key) c.args.objects.now c.requires _ c.search.ensures.within c.search.ensures.found)
