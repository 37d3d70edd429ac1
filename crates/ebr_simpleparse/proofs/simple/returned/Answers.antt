use Rattle.std.proofs.Common.{rules}
use Rattle.ebr_grammar.proofs.Steps.{steps}
use Rattle.ebr_simpleparse.specs.Simple.{returned}
use Rattle.ebr_simpleparse.proofs.simple.returned.Goals as goal

pub returns-then-eat : goal.returns-then-eat
unfolding returned
returns-then-eat c = simp steps (search rules)

pub returns-in_err-value : goal.returns-in_err-value
unfolding returned
returns-in_err-value c = simp steps (search rules)

pub returns-in_err-expect : goal.returns-in_err-expect
unfolding returned
returns-in_err-expect c = simp steps (search rules)

pub returns : goal.returns
unfolding returned
returns c = simp steps (search rules)
