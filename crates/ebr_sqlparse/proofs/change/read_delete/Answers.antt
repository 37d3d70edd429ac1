use Rattle.std.proofs.Common.{rules}
use Rattle.ebr_grammar.proofs.Steps.{steps}
use Rattle.ebr_sqlparse.specs.Statements.{delete}
use Rattle.ebr_sqlparse.proofs.change.read_delete.Goals as goal

pub returns-in_err-expect : goal.returns-in_err-expect
unfolding delete
returns-in_err-expect c = simp steps (search rules)

pub returns-in_err-target : goal.returns-in_err-target
unfolding delete
returns-in_err-target c = simp steps (search rules)

pub returns-in_err-filter : goal.returns-in_err-filter
unfolding delete
returns-in_err-filter c = simp steps (search rules)

pub returns : goal.returns
unfolding delete
returns c = simp steps (search rules)
