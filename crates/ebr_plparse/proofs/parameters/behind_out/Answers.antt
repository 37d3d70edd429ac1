use Rattle.std.proofs.Common.{rules}
use Rattle.ebr_grammar.proofs.Steps.{steps}
use Rattle.ebr_plparse.specs.Heads.{behind_out}
use Rattle.ebr_plparse.proofs.parameters.behind_out.Goals as goal

pub returns-in_err-column : goal.returns-in_err-column
unfolding behind_out
returns-in_err-column c = simp steps (search rules)

pub returns-in_ok-column : goal.returns-in_ok-column
unfolding behind_out
returns-in_ok-column c = simp steps (search rules)

pub returns-in_err-ty : goal.returns-in_err-ty
unfolding behind_out
returns-in_err-ty c = simp steps (search rules)

pub returns-in_ok-ty : goal.returns-in_ok-ty
unfolding behind_out
returns-in_ok-ty c = simp steps (search rules)
