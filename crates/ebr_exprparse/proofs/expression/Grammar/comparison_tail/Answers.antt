use Rattle.std.proofs.Common.{rules}
use Rattle.ebr_grammar.proofs.Steps.{steps}
use Rattle.ebr_exprparse.specs.Expressions.{comparison_tail}
use Rattle.ebr_exprparse.proofs.expression.Grammar.comparison_tail.Goals as goal

pub returns-in_err-signed : goal.returns-in_err-signed
unfolding comparison_tail
returns-in_err-signed g c = simp steps (search rules)

pub returns-in_ok-signed : goal.returns-in_ok-signed
unfolding comparison_tail
returns-in_ok-signed g c = simp steps (search rules)

pub returns-in_err-test : goal.returns-in_err-test
unfolding comparison_tail
returns-in_err-test g c = simp steps (search rules)

pub returns-in_ok-test : goal.returns-in_ok-test
unfolding comparison_tail
returns-in_ok-test g c = simp steps (search rules)

pub returns-else-sees_any-2 : goal.returns-else-sees_any-2
unfolding comparison_tail
returns-else-sees_any-2 g c = simp steps (search rules)
