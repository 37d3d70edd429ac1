use Rattle.std.proofs.Common.{rules}
use Rattle.ebr_grammar.proofs.Steps.{steps}
use Rattle.ebr_ddlparse.specs.Definitions.{closed_column}
use Rattle.ebr_ddlparse.proofs.alter.closed_column.Goals as goal

pub returns-in_err-added : goal.returns-in_err-added
unfolding closed_column
returns-in_err-added c = simp steps (search rules)

pub returns : goal.returns
unfolding closed_column
returns c = simp steps (search rules)
