use Rattle.std.proofs.Common.{rules}
use Rattle.ebr_grammar.proofs.Steps.{steps}
use Rattle.ebr_plparse.specs.Units.{create}
use Rattle.ebr_plparse.proofs.units.create.Goals as goal

pub returns-in_err-expect : goal.returns-in_err-expect
unfolding create
returns-in_err-expect c = simp steps (search rules)

pub returns-in_ok-expect : goal.returns-in_ok-expect
unfolding create
returns-in_ok-expect c = simp steps (search rules)

pub returns-else-eat : goal.returns-else-eat
unfolding create
returns-else-eat c = simp steps (search rules)
