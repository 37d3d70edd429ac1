use Rattle.std.proofs.Common.{rules}
use Rattle.ebr_grammar.proofs.Steps.{steps}
use Rattle.ebr_exprparse.specs.Expressions.{trunc_call}
use Rattle.ebr_exprparse.proofs.expression.Grammar.trunc_call.Goals as goal

pub returns-in_err-arguments : goal.returns-in_err-arguments
unfolding trunc_call
returns-in_err-arguments g c = simp steps (search rules)

pub returns-in_err-expect : goal.returns-in_err-expect
unfolding trunc_call
returns-in_err-expect g c = simp steps (search rules)

pub returns : goal.returns
unfolding trunc_call
returns g c = simp steps (search rules)
