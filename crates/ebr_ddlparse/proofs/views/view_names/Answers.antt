use Rattle.std.proofs.Common.{rules}
use Rattle.ebr_grammar.proofs.Steps.{steps}
use Rattle.ebr_ddlparse.specs.Views.{view_names}
use Rattle.ebr_ddlparse.proofs.views.view_names.Goals as goal

pub returns-then-eat : goal.returns-then-eat
unfolding view_names
returns-then-eat c = simp steps (search rules)

pub returns-else-eat : goal.returns-else-eat
unfolding view_names
returns-else-eat c = simp steps (search rules)
