use Rattle.std.proofs.Common.{rules}
use Rattle.ebr_grammar.proofs.Steps.{steps}
use Rattle.ebr_ddlparse.specs.Views.{editioning_view}
use Rattle.ebr_ddlparse.proofs.views.read_view.Goals as goal

pub returns-in_err-head : goal.returns-in_err-head
unfolding editioning_view
returns-in_err-head c = simp steps (search rules)

pub returns-in_err-body : goal.returns-in_err-body
unfolding editioning_view
returns-in_err-body c = simp steps (search rules)

pub returns : goal.returns
unfolding editioning_view
returns c = simp steps (search rules)
