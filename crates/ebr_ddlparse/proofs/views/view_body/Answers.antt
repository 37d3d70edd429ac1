use Rattle.std.proofs.Common.{rules}
use Rattle.ebr_grammar.proofs.Steps.{steps}
use Rattle.ebr_ddlparse.specs.Views.{view_body}
use Rattle.ebr_ddlparse.proofs.views.view_body.Goals as goal

pub returns-in_err-items : goal.returns-in_err-items
unfolding view_body
returns-in_err-items c = simp steps (search rules)

pub returns-in_err-table : goal.returns-in_err-table
unfolding view_body
returns-in_err-table c = simp steps (search rules)

pub returns : goal.returns
unfolding view_body
returns c = simp steps (search rules)
