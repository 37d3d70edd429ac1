use Rattle.std.proofs.Common.{rules}
use Rattle.ebr_grammar.proofs.Steps.{steps}
use Rattle.ebr_sqlparse.specs.Items.{rows}
use Rattle.ebr_sqlparse.proofs.items.count_of_rows.Goals as goal

pub returns-in_err-expect : goal.returns-in_err-expect
unfolding rows
returns-in_err-expect c = simp steps (search rules)

pub returns-in_err-expect-2 : goal.returns-in_err-expect-2
unfolding rows
returns-in_err-expect-2 c = simp steps (search rules)

pub returns-in_err-expect-3 : goal.returns-in_err-expect-3
unfolding rows
returns-in_err-expect-3 c = simp steps (search rules)

pub returns-in_err-expect-4 : goal.returns-in_err-expect-4
unfolding rows
returns-in_err-expect-4 c = simp steps (search rules)

pub returns-in_err-alias : goal.returns-in_err-alias
unfolding rows
returns-in_err-alias c = simp steps (search rules)

pub returns : goal.returns
unfolding rows
returns c = simp steps (search rules)
