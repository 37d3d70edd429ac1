use Rattle.std.proofs.Common.{ap, ◌∙◌}
use Rattle.ebr_ast.specs.declared.view.EditionView.{EditionView}
use Rattle.ebr_ast.specs.Views.{object_of}
use Rattle.ebr_statements.proofs.ready.object_of.Goals as goal

pub returns : goal.returns
returns c = c.shared_object.ensures ∙ ap (λ (v : EditionView). object_of c.args.f.now.key v.objects) (c.get-2.ensures ∙ c.view.ensures.view ∙ c.get.ensures)
