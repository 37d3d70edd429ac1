use Rattle.std.proofs.Common.{rules}
use Rattle.ebr_grammar.proofs.Steps.{steps}
use Rattle.ebr_sqlparse.specs.Statements.{sql}
use Rattle.ebr_sqlparse.proofs.statements.read_sql.Goals as goal

pub returns-in_err-read_query : goal.returns-in_err-read_query
unfolding sql
returns-in_err-read_query c = simp steps (search rules)

pub returns-in_ok-read_query : goal.returns-in_ok-read_query
unfolding sql
returns-in_ok-read_query c = simp steps (search rules)

pub returns-in_err-read_insert : goal.returns-in_err-read_insert
unfolding sql
returns-in_err-read_insert c = simp steps (search rules)

pub returns-in_ok-read_insert : goal.returns-in_ok-read_insert
unfolding sql
returns-in_ok-read_insert c = simp steps (search rules)

pub returns-in_err-read_update : goal.returns-in_err-read_update
unfolding sql
returns-in_err-read_update c = simp steps (search rules)

pub returns-in_ok-read_update : goal.returns-in_ok-read_update
unfolding sql
returns-in_ok-read_update c = simp steps (search rules)

pub returns-in_err-read_delete : goal.returns-in_err-read_delete
unfolding sql
returns-in_err-read_delete c = simp steps (search rules)

pub returns-in_ok-read_delete : goal.returns-in_ok-read_delete
unfolding sql
returns-in_ok-read_delete c = simp steps (search rules)

pub returns-in_err-apply : goal.returns-in_err-apply
unfolding sql
returns-in_err-apply c = simp steps (search rules)

pub returns-in_ok-apply : goal.returns-in_ok-apply
unfolding sql
returns-in_ok-apply c = simp steps (search rules)
