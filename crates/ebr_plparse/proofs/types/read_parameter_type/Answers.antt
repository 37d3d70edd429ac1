use Rattle.std.proofs.Common.{rules}
use Rattle.ebr_grammar.proofs.Steps.{steps}
use Rattle.ebr_plparse.specs.Heads.{parameter_type}
use Rattle.ebr_plparse.proofs.types.read_parameter_type.Goals as goal

pub returns-in_err-table : goal.returns-in_err-table
unfolding parameter_type
returns-in_err-table c = simp steps (search rules)

pub returns-in_ok-table : goal.returns-in_ok-table
unfolding parameter_type
returns-in_ok-table c = simp steps (search rules)

pub returns-else-sees : goal.returns-else-sees
unfolding parameter_type
returns-else-sees c = simp steps (search rules)
