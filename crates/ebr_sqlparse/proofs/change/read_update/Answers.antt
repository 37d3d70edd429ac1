use Rattle.std.proofs.Common.{rules}
use Rattle.ebr_grammar.proofs.Steps.{steps}
use Rattle.ebr_sqlparse.specs.Statements.{update}
use Rattle.ebr_sqlparse.proofs.change.read_update.Goals as goal

pub returns-in_err-expect : goal.returns-in_err-expect
unfolding update
returns-in_err-expect c = simp steps (search rules)

pub returns-in_err-target : goal.returns-in_err-target
unfolding update
returns-in_err-target c = simp steps (search rules)

pub returns : goal.returns
unfolding update
returns c = simp steps (search rules)
