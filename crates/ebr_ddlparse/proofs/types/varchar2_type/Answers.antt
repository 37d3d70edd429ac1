use Rattle.std.proofs.Common.{rules}
use Rattle.ebr_grammar.proofs.Steps.{steps}
use Rattle.ebr_ddlparse.specs.Types.{varchar2_type}
use Rattle.ebr_ddlparse.proofs.types.varchar2_type.Goals as goal

pub returns-in_err-bytes : goal.returns-in_err-bytes
unfolding varchar2_type
returns-in_err-bytes c = simp steps (search rules)

pub returns-in_ok-bytes : goal.returns-in_ok-bytes
unfolding varchar2_type
returns-in_ok-bytes c = simp steps (search rules)

pub returns-in_err-expect : goal.returns-in_err-expect
unfolding varchar2_type
returns-in_err-expect c = simp steps (search rules)

pub returns-in_ok-expect : goal.returns-in_ok-expect
unfolding varchar2_type
returns-in_ok-expect c = simp steps (search rules)
