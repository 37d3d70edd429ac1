use Rattle.std.proofs.Common.{rules}
use Rattle.ebr_grammar.proofs.Steps.{steps}
use Rattle.ebr_plparse.specs.Triggers.{crossedition}
use Rattle.ebr_plparse.proofs.triggers.crossedition.Goals as goal

pub returns-in_err-expect : goal.returns-in_err-expect
unfolding crossedition
returns-in_err-expect c = simp steps (search rules)

pub returns-in_ok-expect : goal.returns-in_ok-expect
unfolding crossedition
returns-in_ok-expect c = simp steps (search rules)

pub returns-in_err-expect-2 : goal.returns-in_err-expect-2
unfolding crossedition
returns-in_err-expect-2 c = simp steps (search rules)

pub returns-in_ok-expect-2 : goal.returns-in_ok-expect-2
unfolding crossedition
returns-in_ok-expect-2 c = simp steps (search rules)

pub returns-else-eat-2 : goal.returns-else-eat-2
unfolding crossedition
returns-else-eat-2 c = simp steps (search rules)
