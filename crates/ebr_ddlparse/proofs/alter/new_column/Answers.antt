use Rattle.std.proofs.Common.{rules}
use Rattle.ebr_ddlparse.specs.Types.{type_reader}
use Rattle.ebr_grammar.proofs.Steps.{steps}
use Rattle.ebr_ddlparse.specs.Definitions.{new_column}
use Rattle.ebr_ddlparse.proofs.alter.new_column.Goals as goal

pub returns-in_err-column : goal.returns-in_err-column
unfolding new_column type_reader
returns-in_err-column c = simp steps (search rules)

pub returns-in_err-ty : goal.returns-in_err-ty
unfolding new_column type_reader
returns-in_err-ty c = simp steps (search rules)

pub returns : goal.returns
unfolding new_column type_reader
returns c = simp steps (search rules)
