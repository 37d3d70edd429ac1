use Rattle.std.proofs.Common.{rules}
use Rattle.ebr_grammar.proofs.Steps.{steps}
use Rattle.ebr_sqlparse.specs.Statements.{values}
use Rattle.ebr_sqlparse.proofs.change.values.Goals as goal

pub returns-in_err-expect : goal.returns-in_err-expect
unfolding values
returns-in_err-expect c = simp steps (search rules)

pub returns-in_err-expect-2 : goal.returns-in_err-expect-2
unfolding values
returns-in_err-expect-2 c = simp steps (search rules)

pub returns-in_err-values : goal.returns-in_err-values
unfolding values
returns-in_err-values c = simp steps (search rules)

pub returns : goal.returns
unfolding values
returns c = simp steps (search rules)
