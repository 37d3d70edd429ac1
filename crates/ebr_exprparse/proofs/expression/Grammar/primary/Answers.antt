use Rattle.std.proofs.Common.{rules}
use Rattle.ebr_grammar.proofs.Steps.{steps}
use Rattle.ebr_exprparse.specs.Expressions.{primary}
use Rattle.ebr_exprparse.proofs.expression.Grammar.primary.Goals as goal

pub returns-in_err-number : goal.returns-in_err-number
unfolding primary
returns-in_err-number g c = simp steps (search rules)

pub returns-in_ok-number : goal.returns-in_ok-number
unfolding primary
returns-in_ok-number g c = simp steps (search rules)

pub returns-in_err-content : goal.returns-in_err-content
unfolding primary
returns-in_err-content g c = simp steps (search rules)

pub returns-in_ok-content : goal.returns-in_ok-content
unfolding primary
returns-in_ok-content g c = simp steps (search rules)

pub returns-then-eat : goal.returns-then-eat
unfolding primary
returns-then-eat g c = simp steps (search rules)

pub returns-then-sees_any : goal.returns-then-sees_any
unfolding primary
returns-then-sees_any g c = simp steps (search rules)

pub returns-then-eat-2 : goal.returns-then-eat-2
unfolding primary
returns-then-eat-2 g c = simp steps (search rules)

pub returns-then-eat-3 : goal.returns-then-eat-3
unfolding primary
returns-then-eat-3 g c = simp steps (search rules)

pub returns-else-eat-3 : goal.returns-else-eat-3
unfolding primary
returns-else-eat-3 g c = simp steps (search rules)
