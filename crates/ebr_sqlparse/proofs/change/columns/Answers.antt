use Rattle.std.proofs.Common.{rules}
use Rattle.ebr_grammar.proofs.Steps.{steps}
use Rattle.ebr_sqlparse.specs.Statements.{columns}
use Rattle.ebr_sqlparse.proofs.change.columns.Goals as goal

pub returns-in_err-columns : goal.returns-in_err-columns
unfolding columns
returns-in_err-columns c = simp steps (search rules)

pub returns-in_err-expect : goal.returns-in_err-expect
unfolding columns
returns-in_err-expect c = simp steps (search rules)

pub returns-in_ok-expect : goal.returns-in_ok-expect
unfolding columns
returns-in_ok-expect c = simp steps (search rules)

pub returns-else-eat : goal.returns-else-eat
unfolding columns
returns-else-eat c = simp steps (search rules)
