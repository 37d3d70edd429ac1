use Rattle.std.proofs.Common.{rules}
use Rattle.ebr_grammar.proofs.Steps.{steps}
use Rattle.ebr_plparse.specs.Triggers.{timing}
use Rattle.ebr_plparse.proofs.triggers.timing.Goals as goal

pub returns-then-eat : goal.returns-then-eat
unfolding timing
returns-then-eat c = simp steps (search rules)

pub returns-in_err-expect : goal.returns-in_err-expect
unfolding timing
returns-in_err-expect c = simp steps (search rules)

pub returns : goal.returns
unfolding timing
returns c = simp steps (search rules)
