use Rattle.std.proofs.Common.{rules}
use Rattle.ebr_grammar.proofs.Steps.{steps}
use Rattle.ebr_sqlparse.specs.Statements.{query_rest}
use Rattle.ebr_sqlparse.proofs.queries.read_query_rest.Goals as goal

pub returns-in_err-sources : goal.returns-in_err-sources
unfolding query_rest
returns-in_err-sources c = simp steps (search rules)

pub returns-in_err-tail : goal.returns-in_err-tail
unfolding query_rest
returns-in_err-tail c = simp steps (search rules)

pub returns : goal.returns
unfolding query_rest
returns c = simp steps (search rules)
