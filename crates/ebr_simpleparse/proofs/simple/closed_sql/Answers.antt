use Rattle.std.proofs.Common.{rules}
use Rattle.ebr_grammar.proofs.Steps.{steps}
use Rattle.ebr_simpleparse.specs.Simple.{closed_sql}
use Rattle.ebr_simpleparse.proofs.simple.closed_sql.Goals as goal

pub returns-in_err-found : goal.returns-in_err-found
unfolding closed_sql
returns-in_err-found c = simp steps (search rules)

pub returns : goal.returns
unfolding closed_sql
returns c = simp steps (search rules)
