use Rattle.std.proofs.Common.{rules}
use Rattle.ebr_grammar.proofs.Steps.{steps}
use Rattle.ebr_exprparse.specs.Expressions.{addend}
use Rattle.ebr_exprparse.proofs.expression.Grammar.addend.Goals as goal

pub returns-in_err-operator : goal.returns-in_err-operator
unfolding addend
returns-in_err-operator g c = simp steps (search rules)

pub returns-in_err-term : goal.returns-in_err-term
unfolding addend
returns-in_err-term g c = simp steps (search rules)

pub returns : goal.returns
unfolding addend
returns g c = simp steps (search rules)
