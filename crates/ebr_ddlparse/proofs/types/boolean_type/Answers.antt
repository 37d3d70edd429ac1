use Rattle.std.proofs.Common.{rules}
use Rattle.ebr_grammar.proofs.Steps.{steps}
use Rattle.ebr_ddlparse.specs.Types.{boolean_type}
use Rattle.ebr_ddlparse.proofs.types.boolean_type.Goals as goal

pub returns-then-eat : goal.returns-then-eat
unfolding boolean_type
returns-then-eat c = simp steps (search rules)

pub returns-else-eat : goal.returns-else-eat
unfolding boolean_type
returns-else-eat c = simp steps (search rules)
