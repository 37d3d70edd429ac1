use Rattle.std.proofs.Common.{rules}
use Rattle.ebr_grammar.proofs.Steps.{steps}
use Rattle.ebr_sqlparse.specs.Statements.{assignment}
use Rattle.ebr_sqlparse.proofs.change.assignment.Goals as goal

pub returns-in_err-column : goal.returns-in_err-column
unfolding assignment
returns-in_err-column c = simp steps (search rules)

pub returns-in_err-expect : goal.returns-in_err-expect
unfolding assignment
returns-in_err-expect c = simp steps (search rules)

pub returns-in_err-value : goal.returns-in_err-value
unfolding assignment
returns-in_err-value c = simp steps (search rules)

pub returns : goal.returns
unfolding assignment
returns c = simp steps (search rules)
