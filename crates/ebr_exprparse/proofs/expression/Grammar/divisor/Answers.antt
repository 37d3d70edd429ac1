use Rattle.std.proofs.Common.{rules}
use Rattle.ebr_grammar.proofs.Steps.{steps}
use Rattle.ebr_exprparse.specs.Expressions.{divisor}
use Rattle.ebr_exprparse.proofs.expression.Grammar.divisor.Goals as goal

pub returns-in_err-divisor : goal.returns-in_err-divisor
unfolding divisor
returns-in_err-divisor g c = simp steps (search rules)

pub returns : goal.returns
unfolding divisor
returns g c = simp steps (search rules)
