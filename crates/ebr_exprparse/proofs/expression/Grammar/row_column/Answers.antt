use Rattle.std.proofs.Common.{rules}
use Rattle.ebr_grammar.proofs.Steps.{steps}
use Rattle.ebr_exprparse.specs.Expressions.{row_column}
use Rattle.ebr_exprparse.proofs.expression.Grammar.row_column.Goals as goal

pub returns-in_err-image : goal.returns-in_err-image
unfolding row_column
returns-in_err-image g c = simp steps (search rules)

pub returns-in_err-expect : goal.returns-in_err-expect
unfolding row_column
returns-in_err-expect g c = simp steps (search rules)

pub returns-in_err-name : goal.returns-in_err-name
unfolding row_column
returns-in_err-name g c = simp steps (search rules)

pub returns : goal.returns
unfolding row_column
returns g c = simp steps (search rules)
