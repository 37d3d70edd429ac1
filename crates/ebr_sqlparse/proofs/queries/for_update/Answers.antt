use Rattle.std.proofs.Common.{rules}
use Rattle.ebr_grammar.proofs.Steps.{steps}
use Rattle.ebr_sqlparse.specs.Statements.{for_update}
use Rattle.ebr_sqlparse.proofs.queries.for_update.Goals as goal

pub returns-in_err-expect : goal.returns-in_err-expect
unfolding for_update
returns-in_err-expect c = simp steps (search rules)

pub returns-in_ok-expect : goal.returns-in_ok-expect
unfolding for_update
returns-in_ok-expect c = simp steps (search rules)

pub returns-else-eat : goal.returns-else-eat
unfolding for_update
returns-else-eat c = simp steps (search rules)
