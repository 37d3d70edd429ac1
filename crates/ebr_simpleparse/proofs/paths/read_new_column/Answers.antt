use Rattle.std.proofs.Common.{rules}
use Rattle.ebr_grammar.proofs.Steps.{steps}
use Rattle.ebr_simpleparse.specs.Paths.{new_column}
use Rattle.ebr_simpleparse.proofs.paths.read_new_column.Goals as goal

pub returns-in_err-expect : goal.returns-in_err-expect
unfolding new_column
returns-in_err-expect c = simp steps (search rules)

pub returns-in_err-expect-2 : goal.returns-in_err-expect-2
unfolding new_column
returns-in_err-expect-2 c = simp steps (search rules)

pub returns : goal.returns
unfolding new_column
returns c = simp steps (search rules)
