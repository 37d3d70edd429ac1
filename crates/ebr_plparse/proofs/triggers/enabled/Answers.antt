use Rattle.std.proofs.Common.{rules}
use Rattle.ebr_grammar.proofs.Steps.{steps}
use Rattle.ebr_plparse.specs.Triggers.{enabled}
use Rattle.ebr_plparse.proofs.triggers.enabled.Goals as goal

pub returns-then-eat : goal.returns-then-eat
unfolding enabled
returns-then-eat c = simp steps (search rules)

pub returns-then-eat-2 : goal.returns-then-eat-2
unfolding enabled
returns-then-eat-2 c = simp steps (search rules)

pub returns : goal.returns
unfolding enabled
returns c = simp steps (search rules)
