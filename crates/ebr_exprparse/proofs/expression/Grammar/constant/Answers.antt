use Rattle.std.proofs.Common.{rules}
use Rattle.ebr_grammar.proofs.Steps.{steps}
use Rattle.ebr_exprparse.specs.Expressions.{constant}
use Rattle.ebr_exprparse.proofs.expression.Grammar.constant.Goals as goal

pub returns-then-eat : goal.returns-then-eat
unfolding constant
returns-then-eat g c = simp steps (search rules)

pub returns-then-eat-2 : goal.returns-then-eat-2
unfolding constant
returns-then-eat-2 g c = simp steps (search rules)

pub returns-then-eat-3 : goal.returns-then-eat-3
unfolding constant
returns-then-eat-3 g c = simp steps (search rules)

pub returns-then-eat-4 : goal.returns-then-eat-4
unfolding constant
returns-then-eat-4 g c = simp steps (search rules)

pub returns-then-eat-5 : goal.returns-then-eat-5
unfolding constant
returns-then-eat-5 g c = simp steps (search rules)

pub returns-then-eat-6 : goal.returns-then-eat-6
unfolding constant
returns-then-eat-6 g c = simp steps (search rules)

pub returns-in_err-expect : goal.returns-in_err-expect
unfolding constant
returns-in_err-expect g c = simp steps (search rules)

pub returns : goal.returns
unfolding constant
returns g c = simp steps (search rules)
