use Rattle.std.proofs.Common.{rules}
use Rattle.ebr_grammar.proofs.Steps.{steps}
use Rattle.ebr_simpleparse.specs.Simple.{new_assignment}
use Rattle.ebr_simpleparse.proofs.simple.new_assignment.Goals as goal

pub returns-in_err-column : goal.returns-in_err-column
unfolding new_assignment
returns-in_err-column c = simp steps (search rules)

pub returns-in_err-value : goal.returns-in_err-value
unfolding new_assignment
returns-in_err-value c = simp steps (search rules)

pub returns : goal.returns
unfolding new_assignment
returns c = simp steps (search rules)
