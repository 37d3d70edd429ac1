use Rattle.std.proofs.Common.{rules}
use Rattle.ebr_grammar.proofs.Steps.{steps}
use Rattle.ebr_exprparse.specs.Expressions.{range_end}
use Rattle.ebr_exprparse.proofs.expression.Grammar.range_end.Goals as goal

pub returns-in_err-expect : goal.returns-in_err-expect
unfolding range_end
returns-in_err-expect g c = simp steps (search rules)

pub returns : goal.returns
unfolding range_end
returns g c = simp steps (search rules)
