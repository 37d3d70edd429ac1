use Rattle.std.proofs.Common.{rules}
use Rattle.ebr_grammar.proofs.Steps.{steps}
use Rattle.ebr_simpleparse.specs.Declarations.{declared}
use Rattle.ebr_simpleparse.proofs.declarations.declared.Goals as goal

pub returns-in_err-expect : goal.returns-in_err-expect
unfolding declared
returns-in_err-expect c = simp steps (search rules)

pub returns-in_ok-expect : goal.returns-in_ok-expect
unfolding declared
returns-in_ok-expect c = simp steps (search rules)

pub returns-else-eat : goal.returns-else-eat
unfolding declared
returns-else-eat c = simp steps (search rules)
