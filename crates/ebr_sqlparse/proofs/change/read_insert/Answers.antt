use Rattle.std.proofs.Common.{rules}
use Rattle.ebr_grammar.proofs.Steps.{steps}
use Rattle.ebr_sqlparse.specs.Statements.{insert}
use Rattle.ebr_sqlparse.proofs.change.read_insert.Goals as goal

pub returns-in_err-expect : goal.returns-in_err-expect
unfolding insert
returns-in_err-expect c = simp steps (search rules)

pub returns-in_err-expect-2 : goal.returns-in_err-expect-2
unfolding insert
returns-in_err-expect-2 c = simp steps (search rules)

pub returns-in_err-table : goal.returns-in_err-table
unfolding insert
returns-in_err-table c = simp steps (search rules)

pub returns-in_err-columns : goal.returns-in_err-columns
unfolding insert
returns-in_err-columns c = simp steps (search rules)

pub returns-in_err-values : goal.returns-in_err-values
unfolding insert
returns-in_err-values c = simp steps (search rules)

pub returns : goal.returns
unfolding insert
returns c = simp steps (search rules)
