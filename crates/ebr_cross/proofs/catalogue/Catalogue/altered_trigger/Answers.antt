use Rattle.std.proofs.Common.{subst}
use Rattle.ebr_ast.specs.declared.definition.ObjectKind.TheVariants as kind
use Rattle.ebr_cross.specs.Kinds.{key_of}
use Rattle.ebr_cross.specs.inside.Steps.{MakesObject}
use Rattle.ebr_cross.proofs.SeenObjects.{alter-same}
use Rattle.ebr_cross.proofs.catalogue.Catalogue.altered_trigger.Goals as goal

pub returns : goal.returns
returns c = λ lists h.
    subst (λ d. MakesObject d c.allowed_object.result)
    (alter-same lists c.args.e c.in_ok-key.key (key_of kind.Trigger c.args.name.now) c.args.enabled c.in-Some.trigger.now c.get-found.result.now c.in_ok-key.ensures (c.in-Some.ensures lists h) c.get-found.ensures)
    (c.allowed_object.ensures lists h)
