use Rattle.std.proofs.Common.{rules}
use Rattle.ebr_grammar.proofs.Steps.{steps}
use Rattle.ebr_ddlparse.specs.Types.{of_column}
use Rattle.ebr_ddlparse.proofs.types.of_column.Goals as goal

pub returns-in_err-expect : goal.returns-in_err-expect
unfolding of_column
returns-in_err-expect c = simp steps (search rules)

pub returns : goal.returns
unfolding of_column
returns c = simp steps (search rules)
