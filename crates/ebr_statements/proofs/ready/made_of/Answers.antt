use Rattle.std.proofs.Common.{◌∙◌, subst}
use Rattle.ebr_ast.specs.declared.view.EditionView.{EditionView}
use Rattle.ebr_ast.specs.declared.view.Object.{Object}
use Rattle.ebr_statements.specs.inside.Held.{IsMadeOf}
use Rattle.ebr_statements.proofs.ready.made_of.Goals as goal

pub returns : goal.returns
returns c = λ e.
    subst (λ (v : EditionView). IsMadeOf v e c.args.object.now.tree c.body_of.result) (c.get-2.ensures ∙ c.view.ensures.view ∙ c.get.ensures)
    (subst (λ (o : Object). IsMadeOf c.get-2.result.now e o.tree c.body_of.result) c.get-3.ensures (c.body_of.ensures e))
