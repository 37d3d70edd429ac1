use Rattle.std.proofs.Common.{rules}
use Rattle.ebr_grammar.proofs.Steps.{steps}
use Rattle.ebr_sqlparse.specs.Statements.{key}
use Rattle.ebr_sqlparse.proofs.queries.key.Goals as goal

pub returns-in_err-key : goal.returns-in_err-key
unfolding key
returns-in_err-key c = simp steps (search rules)

pub returns-in_err-descending : goal.returns-in_err-descending
unfolding key
returns-in_err-descending c = simp steps (search rules)

pub returns : goal.returns
unfolding key
returns c = simp steps (search rules)
