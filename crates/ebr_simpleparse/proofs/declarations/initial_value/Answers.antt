use Rattle.std.proofs.Common.{rules}
use Rattle.ebr_grammar.proofs.Steps.{steps}
use Rattle.ebr_simpleparse.specs.Declarations.{initial_value}
use Rattle.ebr_simpleparse.proofs.declarations.initial_value.Goals as goal

pub returns-in_err-read_expression : goal.returns-in_err-read_expression
unfolding initial_value
returns-in_err-read_expression c = simp steps (search rules)

pub returns-in_ok-read_expression : goal.returns-in_ok-read_expression
unfolding initial_value
returns-in_ok-read_expression c = simp steps (search rules)

pub returns-in_err-read_expression-2 : goal.returns-in_err-read_expression-2
unfolding initial_value
returns-in_err-read_expression-2 c = simp steps (search rules)

pub returns-in_ok-read_expression-2 : goal.returns-in_ok-read_expression-2
unfolding initial_value
returns-in_ok-read_expression-2 c = simp steps (search rules)

pub returns-else-eat-2 : goal.returns-else-eat-2
unfolding initial_value
returns-else-eat-2 c = simp steps (search rules)
