use Rattle.std.proofs.Common.{rules}
use Rattle.ebr_grammar.proofs.Steps.{steps}
use Rattle.ebr_ddlparse.specs.Views.{selected}
use Rattle.ebr_ddlparse.proofs.views.selected.Goals as goal

pub returns-in_err-expect : goal.returns-in_err-expect
unfolding selected
returns-in_err-expect c = simp steps (search rules)

pub returns-in_err-expect-2 : goal.returns-in_err-expect-2
unfolding selected
returns-in_err-expect-2 c = simp steps (search rules)

pub returns-in_err-found : goal.returns-in_err-found
unfolding selected
returns-in_err-found c = simp steps (search rules)

pub returns : goal.returns
unfolding selected
returns c = simp steps (search rules)
