use Rattle.std.proofs.Common.{rules}
use Rattle.ebr_grammar.proofs.Steps.{steps}
use Rattle.ebr_plparse.specs.Heads.{passing}
use Rattle.ebr_plparse.proofs.parameters.passing.Goals as goal

pub returns-then-eat : goal.returns-then-eat
unfolding passing
returns-then-eat c = simp steps (search rules)

pub returns-in_err-out : goal.returns-in_err-out
unfolding passing
returns-in_err-out c = simp steps (search rules)

pub returns-in_ok-out : goal.returns-in_ok-out
unfolding passing
returns-in_ok-out c = simp steps (search rules)

pub returns-in_err-ty : goal.returns-in_err-ty
unfolding passing
returns-in_err-ty c = simp steps (search rules)

pub returns-in_ok-ty : goal.returns-in_ok-ty
unfolding passing
returns-in_ok-ty c = simp steps (search rules)
