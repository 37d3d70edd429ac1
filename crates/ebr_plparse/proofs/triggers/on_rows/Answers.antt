use Rattle.std.proofs.Common.{rules}
use Rattle.ebr_grammar.proofs.Steps.{steps}
use Rattle.ebr_plparse.specs.Triggers.{on_rows}
use Rattle.ebr_plparse.proofs.triggers.on_rows.Goals as goal

pub returns-in_err-on : goal.returns-in_err-on
unfolding on_rows
returns-in_err-on c = simp steps (search rules)

pub returns-in_err-each_row : goal.returns-in_err-each_row
unfolding on_rows
returns-in_err-each_row c = simp steps (search rules)

pub returns : goal.returns
unfolding on_rows
returns c = simp steps (search rules)
