use Rattle.std.proofs.Common.{rules}
use Rattle.ebr_grammar.proofs.Steps.{steps}
use Rattle.ebr_sqlparse.specs.Statements.{order}
use Rattle.ebr_sqlparse.proofs.queries.order.Goals as goal

pub returns-in_err-expect : goal.returns-in_err-expect
unfolding order
returns-in_err-expect c = simp steps (search rules)

pub returns-in_ok-expect : goal.returns-in_ok-expect
unfolding order
returns-in_ok-expect c = simp steps (search rules)

pub returns-else-eat : goal.returns-else-eat
unfolding order
returns-else-eat c = simp steps (search rules)
