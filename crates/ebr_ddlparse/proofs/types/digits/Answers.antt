use Rattle.std.proofs.Common.{rules}
use Rattle.ebr_grammar.proofs.Steps.{steps}
use Rattle.ebr_ddlparse.specs.Types.{digits}
use Rattle.ebr_ddlparse.proofs.types.digits.Goals as goal

pub returns-in_err-count : goal.returns-in_err-count
unfolding digits
returns-in_err-count c = simp steps (search rules)

pub returns-in_err-expect : goal.returns-in_err-expect
unfolding digits
returns-in_err-expect c = simp steps (search rules)

pub returns : goal.returns
unfolding digits
returns c = simp steps (search rules)
