use Rattle.std.proofs.Common.{rules}
use Rattle.ebr_grammar.proofs.Steps.{steps}
use Rattle.ebr_exprparse.specs.Expressions.{sql_attribute}
use Rattle.ebr_exprparse.proofs.expression.Grammar.sql_attribute.Goals as goal

pub returns-in_err-expect : goal.returns-in_err-expect
unfolding sql_attribute
returns-in_err-expect g c = simp steps (search rules)

pub returns-in_err-attribute : goal.returns-in_err-attribute
unfolding sql_attribute
returns-in_err-attribute g c = simp steps (search rules)

pub returns : goal.returns
unfolding sql_attribute
returns g c = simp steps (search rules)
