use Rattle.std.proofs.Common.{rules}
use Rattle.ebr_grammar.proofs.Steps.{steps}
use Rattle.ebr_sqlparse.specs.Statements.{filter}
use Rattle.ebr_sqlparse.proofs.queries.read_filter.Goals as goal

pub returns-in_err-read_expression : goal.returns-in_err-read_expression
unfolding filter
returns-in_err-read_expression c = simp steps (search rules)

pub returns-in_ok-read_expression : goal.returns-in_ok-read_expression
unfolding filter
returns-in_ok-read_expression c = simp steps (search rules)

pub returns-else-eat : goal.returns-else-eat
unfolding filter
returns-else-eat c = simp steps (search rules)
