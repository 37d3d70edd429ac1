use Rattle.std.proofs.Common.{rules}
use Rattle.ebr_grammar.proofs.Steps.{steps}
use Rattle.ebr_ddlparse.specs.Definitions.{create}
use Rattle.ebr_ddlparse.proofs.create.read_create.Goals as goal

pub returns-then-eat : goal.returns-then-eat
unfolding create
returns-then-eat c = simp steps (search rules)

pub returns-then-eat-2 : goal.returns-then-eat-2
unfolding create
returns-then-eat-2 c = simp steps (search rules)

pub returns-in_err-expect : goal.returns-in_err-expect
unfolding create
returns-in_err-expect c = simp steps (search rules)

pub returns-in_ok-expect : goal.returns-in_ok-expect
unfolding create
returns-in_ok-expect c = simp steps (search rules)

pub returns-else-eat-3 : goal.returns-else-eat-3
unfolding create
returns-else-eat-3 c = simp steps (search rules)
