use Rattle.std.proofs.Common.{rules}
use Rattle.ebr_grammar.proofs.Steps.{steps}
use Rattle.ebr_exprparse.specs.Expressions.{trunc_arguments}
use Rattle.ebr_exprparse.proofs.expression.Grammar.trunc_arguments.Goals as goal

pub returns-then-eat : goal.returns-then-eat
unfolding trunc_arguments
returns-then-eat g c = simp steps (search rules)

pub returns-in_err-first : goal.returns-in_err-first
unfolding trunc_arguments
returns-in_err-first g c = simp steps (search rules)

pub returns : goal.returns
unfolding trunc_arguments
returns g c = simp steps (search rules)
