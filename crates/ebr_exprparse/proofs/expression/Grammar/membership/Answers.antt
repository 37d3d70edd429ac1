use Rattle.std.proofs.Common.{rules}
use Rattle.ebr_grammar.proofs.Steps.{steps}
use Rattle.ebr_exprparse.specs.Expressions.{membership}
use Rattle.ebr_exprparse.proofs.expression.Grammar.membership.Goals as goal

pub returns-then-eat : goal.returns-then-eat
unfolding membership
returns-then-eat g c = simp steps (search rules)

pub returns-then-eat-2 : goal.returns-then-eat-2
unfolding membership
returns-then-eat-2 g c = simp steps (search rules)

pub returns-in_err-expect : goal.returns-in_err-expect
unfolding membership
returns-in_err-expect g c = simp steps (search rules)

pub returns-in_ok-expect : goal.returns-in_ok-expect
unfolding membership
returns-in_ok-expect g c = simp steps (search rules)
