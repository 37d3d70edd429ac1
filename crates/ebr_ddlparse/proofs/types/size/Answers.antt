use Rattle.std.proofs.Common.{rules}
use Rattle.ebr_grammar.proofs.Steps.{steps}
use Rattle.ebr_ddlparse.specs.Types.{size}
use Rattle.ebr_ddlparse.proofs.types.size.Goals as goal

pub returns-in_err-bytes : goal.returns-in_err-bytes
unfolding size
returns-in_err-bytes c = simp steps (search rules)

pub returns-in_err-closed_unit : goal.returns-in_err-closed_unit
unfolding size
returns-in_err-closed_unit c = simp steps (search rules)

pub returns : goal.returns
unfolding size
returns c = simp steps (search rules)
