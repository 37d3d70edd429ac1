use Rattle.std.proofs.Common.{rules}
use Rattle.ebr_grammar.proofs.Steps.{steps}
use Rattle.ebr_plparse.specs.Heads.{behind_in}
use Rattle.ebr_plparse.proofs.parameters.behind_in.Goals as goal

pub returns-in_err-out : goal.returns-in_err-out
unfolding behind_in
returns-in_err-out c = simp steps (search rules)

pub returns-in_ok-out : goal.returns-in_ok-out
unfolding behind_in
returns-in_ok-out c = simp steps (search rules)

pub returns-in_err-ty : goal.returns-in_err-ty
unfolding behind_in
returns-in_err-ty c = simp steps (search rules)

pub returns-in_ok-ty : goal.returns-in_ok-ty
unfolding behind_in
returns-in_ok-ty c = simp steps (search rules)
