use Rattle.std.proofs.Common.{rules}
use Rattle.ebr_grammar.proofs.Steps.{steps}
use Rattle.ebr_ddlparse.specs.Types.{number_type}
use Rattle.ebr_ddlparse.proofs.types.number_type.Goals as goal

pub returns-in_err-count : goal.returns-in_err-count
unfolding number_type
returns-in_err-count c = simp steps (search rules)

pub returns-in_ok-count : goal.returns-in_ok-count
unfolding number_type
returns-in_ok-count c = simp steps (search rules)

pub returns-then-eat-2 : goal.returns-then-eat-2
unfolding number_type
returns-then-eat-2 c = simp steps (search rules)

pub returns-else-eat-2 : goal.returns-else-eat-2
unfolding number_type
returns-else-eat-2 c = simp steps (search rules)
