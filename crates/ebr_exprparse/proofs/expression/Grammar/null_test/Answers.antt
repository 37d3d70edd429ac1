use Rattle.std.proofs.Common.{rules}
use Rattle.ebr_grammar.proofs.Steps.{steps}
use Rattle.ebr_exprparse.specs.Expressions.{null_test}
use Rattle.ebr_exprparse.proofs.expression.Grammar.null_test.Goals as goal

pub returns-in_err-expect : goal.returns-in_err-expect
unfolding null_test
returns-in_err-expect g c = simp steps (search rules)

pub returns : goal.returns
unfolding null_test
returns g c = simp steps (search rules)
