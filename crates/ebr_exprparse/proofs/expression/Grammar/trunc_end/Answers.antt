use Rattle.std.proofs.Common.{rules}
use Rattle.ebr_grammar.proofs.Steps.{steps}
use Rattle.ebr_exprparse.specs.Expressions.{trunc_end}
use Rattle.ebr_exprparse.proofs.expression.Grammar.trunc_end.Goals as goal

pub returns-in_err-divisor : goal.returns-in_err-divisor
unfolding trunc_end
returns-in_err-divisor g c = simp steps (search rules)

pub returns-in_ok-divisor : goal.returns-in_ok-divisor
unfolding trunc_end
returns-in_ok-divisor g c = simp steps (search rules)

pub returns-else-eat : goal.returns-else-eat
unfolding trunc_end
returns-else-eat g c = simp steps (search rules)
