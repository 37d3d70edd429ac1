use Rattle.std.proofs.Common.{rules}
use Rattle.ebr_grammar.proofs.Steps.{steps}
use Rattle.ebr_ddlparse.specs.Types.{closed_unit}
use Rattle.ebr_ddlparse.proofs.types.closed_unit.Goals as goal

pub returns-in_err-unit : goal.returns-in_err-unit
unfolding closed_unit
returns-in_err-unit c = simp steps (search rules)

pub returns-in_err-expect : goal.returns-in_err-expect
unfolding closed_unit
returns-in_err-expect c = simp steps (search rules)

pub returns : goal.returns
unfolding closed_unit
returns c = simp steps (search rules)
