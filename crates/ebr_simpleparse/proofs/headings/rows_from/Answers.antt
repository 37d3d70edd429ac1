use Rattle.std.proofs.Common.{rules}
use Rattle.ebr_grammar.proofs.Steps.{steps}
use Rattle.ebr_simpleparse.specs.Headings.{rows_from}
use Rattle.ebr_simpleparse.proofs.headings.rows_from.Goals as goal

pub returns-in_err-query : goal.returns-in_err-query
unfolding rows_from
returns-in_err-query c = simp steps (search rules)

pub returns-in_err-expect : goal.returns-in_err-expect
unfolding rows_from
returns-in_err-expect c = simp steps (search rules)

pub returns-in_ok-expect : goal.returns-in_ok-expect
unfolding rows_from
returns-in_ok-expect c = simp steps (search rules)

pub returns-in_err-name : goal.returns-in_err-name
unfolding rows_from
returns-in_err-name c = simp steps (search rules)

pub returns-in_ok-name : goal.returns-in_ok-name
unfolding rows_from
returns-in_ok-name c = simp steps (search rules)
