use Rattle.std.proofs.Common.{subst}
use Rattle.ebr_cross.specs.Kinds.{key_of}
use Rattle.ebr_cross.specs.Definitions.{is_enabled}
use Rattle.ebr_cross.specs.inside.Steps.{MakesObject}
use Rattle.ebr_cross.proofs.Creations.{named-refused, named-put}
use Rattle.ebr_cross.proofs.catalogue.Catalogue.new_named.Goals as goal

pub returns-in-Some : goal.returns-in-Some
returns-in-Some c = λ lists h.
    named-refused lists c.args.e c.args.replace c.args.kind c.in_ok-key.key (key_of c.args.kind c.args.name.now) c.args.unit.now _ c.in-Some.code c.in_ok-code.field-0 c.in_ok-key.ensures (c.in_ok-code.ensures lists h) c.in-Some.is

pub returns : goal.returns
returns c = λ lists h.
    subst (λ d. MakesObject d c.allowed_object.result)
    (named-put lists c.args.e c.args.replace c.args.kind c.in_ok-key.key (key_of c.args.kind c.args.name.now) c.args.text.now c.args.unit.now c.is_enabled.result (is_enabled c.args.unit.now) c.in_ok-code.field-0
    c.in_ok-key.ensures c.is_enabled.ensures (c.in_ok-code.ensures lists h) c.in_default.is)
    (c.allowed_object.ensures lists h)
