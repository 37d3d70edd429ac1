use Rattle.std.proofs.Common.{rules}
use Rattle.ebr_grammar.proofs.Steps.{steps}
use Rattle.ebr_simpleparse.specs.Types.{constant}
use Rattle.ebr_simpleparse.proofs.types.constant.Goals as goal

pub returns-in_err-expect : goal.returns-in_err-expect
unfolding constant
returns-in_err-expect c = simp steps (search rules)

pub returns-in_err-ty : goal.returns-in_err-ty
unfolding constant
returns-in_err-ty c = simp steps (search rules)

pub returns : goal.returns
unfolding constant
returns c = simp steps (search rules)
