use Rattle.std.proofs.Common.{rules}
use Rattle.ebr_grammar.proofs.Steps.{steps}
use Rattle.ebr_exprparse.specs.Expressions.{test}
use Rattle.ebr_exprparse.proofs.expression.Grammar.test.Goals as goal

pub returns-then-eat : goal.returns-then-eat
unfolding test
returns-then-eat g c = simp steps (search rules)

pub returns-then-eat-2 : goal.returns-then-eat-2
unfolding test
returns-then-eat-2 g c = simp steps (search rules)

pub returns-else-eat-2 : goal.returns-else-eat-2
unfolding test
returns-else-eat-2 g c = simp steps (search rules)
