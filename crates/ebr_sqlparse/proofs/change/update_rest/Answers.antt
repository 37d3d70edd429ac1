use Rattle.std.proofs.Common.{rules}
use Rattle.ebr_grammar.proofs.Steps.{steps}
use Rattle.ebr_sqlparse.specs.Statements.{update_rest}
use Rattle.ebr_sqlparse.proofs.change.update_rest.Goals as goal

pub returns-in_err-expect : goal.returns-in_err-expect
unfolding update_rest
returns-in_err-expect c = simp steps (search rules)

pub returns-in_err-sets : goal.returns-in_err-sets
unfolding update_rest
returns-in_err-sets c = simp steps (search rules)

pub returns-in_err-filter : goal.returns-in_err-filter
unfolding update_rest
returns-in_err-filter c = simp steps (search rules)

pub returns : goal.returns
unfolding update_rest
returns c = simp steps (search rules)
