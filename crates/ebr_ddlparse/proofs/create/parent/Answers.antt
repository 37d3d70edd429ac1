use Rattle.std.proofs.Common.{rules}
use Rattle.ebr_grammar.proofs.Steps.{steps}
use Rattle.ebr_ddlparse.specs.Definitions.{parent}
use Rattle.ebr_ddlparse.proofs.create.parent.Goals as goal

pub returns-in_err-expect : goal.returns-in_err-expect
unfolding parent
returns-in_err-expect c = simp steps (search rules)

pub returns-in_err-expect-2 : goal.returns-in_err-expect-2
unfolding parent
returns-in_err-expect-2 c = simp steps (search rules)

pub returns-in_err-name : goal.returns-in_err-name
unfolding parent
returns-in_err-name c = simp steps (search rules)

pub returns-in_ok-name : goal.returns-in_ok-name
unfolding parent
returns-in_ok-name c = simp steps (search rules)

pub returns-else-eat : goal.returns-else-eat
unfolding parent
returns-else-eat c = simp steps (search rules)
