use Rattle.std.proofs.Common.{sym, ◌∙◌}
use Rattle.ebr_cross.specs.Definitions.{name_refusals, tree_refusals}
use Rattle.ebr_cross.proofs.Applied.{first-of-two, none-of-first, if_ok-map}
use Rattle.ebr_cross.proofs.catalogue.Catalogue.creation_refusal.Goals as goal

pub returns-in-Some : goal.returns-in-Some
returns-in-Some c = λ lists h.
    sym (first-of-two (name_refusals lists c.args.e c.args.replace c.args.kind c.args.key.now) (tree_refusals lists c.args.e c.args.key.now c.args.unit.now) c.in-Some.code (sym (c.in-Some.ensures lists h)))

pub returns : goal.returns
returns c = λ lists h.
    if_ok-map c.tree_refusal.result
    (λ x p. p ∙ sym (none-of-first (name_refusals lists c.args.e c.args.replace c.args.kind c.args.key.now) (tree_refusals lists c.args.e c.args.key.now c.args.unit.now) (sym (c.in_default.ensures lists h))))
    (c.tree_refusal.ensures lists h)
