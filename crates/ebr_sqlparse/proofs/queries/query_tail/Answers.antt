use Rattle.std.proofs.Common.{rules}
use Rattle.ebr_grammar.proofs.Steps.{steps}
use Rattle.ebr_sqlparse.specs.Statements.{query_tail}
use Rattle.ebr_sqlparse.proofs.queries.query_tail.Goals as goal

pub returns-in_err-filter : goal.returns-in_err-filter
unfolding query_tail
returns-in_err-filter c = simp steps (search rules)

pub returns-in_err-order : goal.returns-in_err-order
unfolding query_tail
returns-in_err-order c = simp steps (search rules)

pub returns-in_err-for_update : goal.returns-in_err-for_update
unfolding query_tail
returns-in_err-for_update c = simp steps (search rules)

pub returns : goal.returns
unfolding query_tail
returns c = simp steps (search rules)
