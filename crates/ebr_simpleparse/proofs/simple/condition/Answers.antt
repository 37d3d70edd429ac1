use Rattle.std.proofs.Common.{rules}
use Rattle.ebr_grammar.proofs.Steps.{steps}
use Rattle.ebr_simpleparse.specs.Simple.{condition}
use Rattle.ebr_simpleparse.proofs.simple.condition.Goals as goal

pub returns-in_err-read_expression : goal.returns-in_err-read_expression
unfolding condition
returns-in_err-read_expression c = simp steps (search rules)

pub returns-in_ok-read_expression : goal.returns-in_ok-read_expression
unfolding condition
returns-in_ok-read_expression c = simp steps (search rules)

pub returns-else-eat : goal.returns-else-eat
unfolding condition
returns-else-eat c = simp steps (search rules)
