use Rattle.std.proofs.Common.{rules}
use Rattle.ebr_grammar.proofs.Steps.{steps}
use Rattle.ebr_ddlparse.specs.Types.{declared_type}
use Rattle.ebr_ddlparse.proofs.types.read_declared_type.Goals as goal

pub returns-in_err-word : goal.returns-in_err-word
unfolding declared_type
returns-in_err-word c = simp steps (search rules)

pub returns-in_ok-word : goal.returns-in_ok-word
unfolding declared_type
returns-in_ok-word c = simp steps (search rules)

pub returns-in_err-word-2 : goal.returns-in_err-word-2
unfolding declared_type
returns-in_err-word-2 c = simp steps (search rules)

pub returns-in_ok-word-2 : goal.returns-in_ok-word-2
unfolding declared_type
returns-in_ok-word-2 c = simp steps (search rules)

pub returns-in_err-word-3 : goal.returns-in_err-word-3
unfolding declared_type
returns-in_err-word-3 c = simp steps (search rules)

pub returns-in_ok-word-3 : goal.returns-in_ok-word-3
unfolding declared_type
returns-in_ok-word-3 c = simp steps (search rules)

pub returns-in_err-word-4 : goal.returns-in_err-word-4
unfolding declared_type
returns-in_err-word-4 c = simp steps (search rules)

pub returns-in_ok-word-4 : goal.returns-in_ok-word-4
unfolding declared_type
returns-in_ok-word-4 c = simp steps (search rules)

pub returns-in_err-table : goal.returns-in_err-table
unfolding declared_type
returns-in_err-table c = simp steps (search rules)

pub returns-in_ok-table : goal.returns-in_ok-table
unfolding declared_type
returns-in_ok-table c = simp steps (search rules)
