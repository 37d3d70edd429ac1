use Rattle.std.proofs.Common.{rules}
use Rattle.ebr_grammar.proofs.Steps.{steps}
use Rattle.ebr_plparse.specs.Triggers.{event}
use Rattle.ebr_plparse.proofs.triggers.event.Goals as goal

pub returns-then-eat : goal.returns-then-eat
unfolding event
returns-then-eat c = simp steps (search rules)

pub returns-then-eat-2 : goal.returns-then-eat-2
unfolding event
returns-then-eat-2 c = simp steps (search rules)

pub returns-in_err-expect : goal.returns-in_err-expect
unfolding event
returns-in_err-expect c = simp steps (search rules)

pub returns : goal.returns
unfolding event
returns c = simp steps (search rules)
