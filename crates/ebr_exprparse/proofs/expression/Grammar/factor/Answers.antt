use Rattle.std.proofs.Common.{rules}
use Rattle.ebr_grammar.proofs.Steps.{steps}
use Rattle.ebr_exprparse.specs.Expressions.{factor}
use Rattle.ebr_exprparse.proofs.expression.Grammar.factor.Goals as goal

pub returns-in_err-operand : goal.returns-in_err-operand
unfolding factor
returns-in_err-operand g c = simp steps (search rules)

pub returns-in_err-new : goal.returns-in_err-new
unfolding factor
returns-in_err-new g c = simp steps (search rules)

pub returns-in_ok-new : goal.returns-in_ok-new
unfolding factor
returns-in_ok-new g c = simp steps (search rules)

pub returns-in_err-operand-2 : goal.returns-in_err-operand-2
unfolding factor
returns-in_err-operand-2 g c = simp steps (search rules)

pub returns-in_err-new-2 : goal.returns-in_err-new-2
unfolding factor
returns-in_err-new-2 g c = simp steps (search rules)

pub returns-in_ok-new-2 : goal.returns-in_ok-new-2
unfolding factor
returns-in_ok-new-2 g c = simp steps (search rules)

pub returns-else-eat-2 : goal.returns-else-eat-2
unfolding factor
returns-else-eat-2 g c = simp steps (search rules)
