use Rattle.std.proofs.Common.{rules}
use Rattle.ebr_grammar.proofs.Steps.{steps}
use Rattle.ebr_ddlparse.specs.Views.{view_head}
use Rattle.ebr_ddlparse.proofs.views.view_head.Goals as goal

pub returns-in_err-expect : goal.returns-in_err-expect
unfolding view_head
returns-in_err-expect c = simp steps (search rules)

pub returns-in_err-expect-2 : goal.returns-in_err-expect-2
unfolding view_head
returns-in_err-expect-2 c = simp steps (search rules)

pub returns-in_err-name : goal.returns-in_err-name
unfolding view_head
returns-in_err-name c = simp steps (search rules)

pub returns-in_err-names : goal.returns-in_err-names
unfolding view_head
returns-in_err-names c = simp steps (search rules)

pub returns : goal.returns
unfolding view_head
returns c = simp steps (search rules)
