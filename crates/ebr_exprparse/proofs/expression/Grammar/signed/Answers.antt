use Rattle.std.proofs.Common.{rules}
use Rattle.ebr_grammar.proofs.Steps.{steps}
use Rattle.ebr_exprparse.specs.Expressions.{signed}
use Rattle.ebr_exprparse.proofs.expression.Grammar.signed.Goals as goal

pub returns-in_err-by : goal.returns-in_err-by
unfolding signed
returns-in_err-by g c = simp steps (search rules)

pub returns-in_err-right : goal.returns-in_err-right
unfolding signed
returns-in_err-right g c = simp steps (search rules)

pub returns : goal.returns
unfolding signed
returns g c = simp steps (search rules)
