use Rattle.std.proofs.Common.{rules}
use Rattle.ebr_grammar.proofs.Steps.{steps}
use Rattle.ebr_plparse.specs.Heads.{of_column}
use Rattle.ebr_plparse.proofs.types.of_column.Goals as goal

pub returns-in_err-expect : goal.returns-in_err-expect
unfolding of_column
returns-in_err-expect c = simp steps (search rules)

pub returns-in_err-column : goal.returns-in_err-column
unfolding of_column
returns-in_err-column c = simp steps (search rules)

pub returns : goal.returns
unfolding of_column
returns c = simp steps (search rules)
