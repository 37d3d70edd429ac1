use Rattle.std.proofs.Common.{rules}
use Rattle.ebr_grammar.proofs.Steps.{steps}
use Rattle.ebr_exprparse.specs.Expressions.{trunc_tail}
use Rattle.ebr_exprparse.proofs.expression.Grammar.trunc_tail.Goals as goal

pub returns-then-eat : goal.returns-then-eat
unfolding trunc_tail
returns-then-eat g c = simp steps (search rules)

pub returns-then-eat-2 : goal.returns-then-eat-2
unfolding trunc_tail
returns-then-eat-2 g c = simp steps (search rules)

pub returns-in_err-attribute : goal.returns-in_err-attribute
unfolding trunc_tail
returns-in_err-attribute g c = simp steps (search rules)

pub returns-in_ok-attribute : goal.returns-in_ok-attribute
unfolding trunc_tail
returns-in_ok-attribute g c = simp steps (search rules)

pub returns-else-eat-3 : goal.returns-else-eat-3
unfolding trunc_tail
returns-else-eat-3 g c = simp steps (search rules)
