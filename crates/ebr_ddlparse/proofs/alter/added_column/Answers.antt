use Rattle.std.proofs.Common.{rules}
use Rattle.ebr_grammar.proofs.Steps.{steps}
use Rattle.ebr_ddlparse.specs.Definitions.{added_column}
use Rattle.ebr_ddlparse.proofs.alter.added_column.Goals as goal

pub returns-then-eat : goal.returns-then-eat
unfolding added_column
returns-then-eat c = simp steps (search rules)

pub returns-else-eat : goal.returns-else-eat
unfolding added_column
returns-else-eat c = simp steps (search rules)
