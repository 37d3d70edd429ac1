use Rattle.std.proofs.Common.{rules}
use Rattle.ebr_grammar.proofs.Steps.{steps}
use Rattle.ebr_exprparse.specs.Expressions.{reference}
use Rattle.ebr_exprparse.proofs.expression.Grammar.reference.Goals as goal

pub returns-in_err-name : goal.returns-in_err-name
unfolding reference
returns-in_err-name g c = simp steps (search rules)

pub returns-in_ok-name : goal.returns-in_ok-name
unfolding reference
returns-in_ok-name g c = simp steps (search rules)

pub returns-in_err-name-2 : goal.returns-in_err-name-2
unfolding reference
returns-in_err-name-2 g c = simp steps (search rules)

pub returns-in_ok-name-2 : goal.returns-in_ok-name-2
unfolding reference
returns-in_ok-name-2 g c = simp steps (search rules)
