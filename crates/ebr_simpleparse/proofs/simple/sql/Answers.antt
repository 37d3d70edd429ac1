use Rattle.std.proofs.Common.{rules}
use Rattle.ebr_grammar.proofs.Steps.{steps}
use Rattle.ebr_simpleparse.specs.Simple.{sql}
use Rattle.ebr_simpleparse.proofs.simple.sql.Goals as goal

pub returns-then-eat : goal.returns-then-eat
unfolding sql
returns-then-eat c = simp steps (search rules)

pub returns-in_err-read_insert : goal.returns-in_err-read_insert
unfolding sql
returns-in_err-read_insert c = simp steps (search rules)

pub returns-in_ok-read_insert : goal.returns-in_ok-read_insert
unfolding sql
returns-in_ok-read_insert c = simp steps (search rules)

pub returns-in_err-read_update : goal.returns-in_err-read_update
unfolding sql
returns-in_err-read_update c = simp steps (search rules)

pub returns-in_ok-read_update : goal.returns-in_ok-read_update
unfolding sql
returns-in_ok-read_update c = simp steps (search rules)

pub returns-in_err-read_delete : goal.returns-in_err-read_delete
unfolding sql
returns-in_err-read_delete c = simp steps (search rules)

pub returns-in_ok-read_delete : goal.returns-in_ok-read_delete
unfolding sql
returns-in_ok-read_delete c = simp steps (search rules)

pub returns-in_err-read_transaction : goal.returns-in_err-read_transaction
unfolding sql
returns-in_err-read_transaction c = simp steps (search rules)

pub returns-in_ok-read_transaction : goal.returns-in_ok-read_transaction
unfolding sql
returns-in_ok-read_transaction c = simp steps (search rules)
