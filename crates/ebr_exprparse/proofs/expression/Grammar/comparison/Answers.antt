use Rattle.std.proofs.Common.{rules}
use Rattle.ebr_grammar.proofs.Steps.{steps}
use Rattle.ebr_exprparse.specs.Expressions.{comparison}
use Rattle.ebr_exprparse.proofs.expression.Grammar.comparison.Goals as goal

pub returns-in_err-left : goal.returns-in_err-left
unfolding comparison
returns-in_err-left g c = simp steps (search rules)

pub returns : goal.returns
unfolding comparison
returns g c = simp steps (search rules)
