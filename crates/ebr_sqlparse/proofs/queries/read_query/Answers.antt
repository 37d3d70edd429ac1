use Rattle.std.proofs.Common.{rules}
use Rattle.ebr_grammar.proofs.Steps.{steps}
use Rattle.ebr_sqlparse.specs.Statements.{query}
use Rattle.ebr_sqlparse.proofs.queries.read_query.Goals as goal

pub returns-in_err-expect : goal.returns-in_err-expect
unfolding query
returns-in_err-expect c = simp steps (search rules)

pub returns-in_err-list : goal.returns-in_err-list
unfolding query
returns-in_err-list c = simp steps (search rules)

pub returns-in_err-expect-2 : goal.returns-in_err-expect-2
unfolding query
returns-in_err-expect-2 c = simp steps (search rules)

pub returns : goal.returns
unfolding query
returns c = simp steps (search rules)
