use Rattle.std.proofs.Common.{rules}
use Rattle.ebr_grammar.proofs.Steps.{steps}
use Rattle.ebr_simpleparse.specs.Simple.{assignment_or_call}
use Rattle.ebr_simpleparse.proofs.simple.assignment_or_call.Goals as goal

pub returns-in_err-value : goal.returns-in_err-value
unfolding assignment_or_call
returns-in_err-value c = simp steps (search rules)

pub returns-in_ok-value : goal.returns-in_ok-value
unfolding assignment_or_call
returns-in_ok-value c = simp steps (search rules)

pub returns-in_err-arguments : goal.returns-in_err-arguments
unfolding assignment_or_call
returns-in_err-arguments c = simp steps (search rules)

pub returns-in_err-expect : goal.returns-in_err-expect
unfolding assignment_or_call
returns-in_err-expect c = simp steps (search rules)

pub returns-in_ok-expect : goal.returns-in_ok-expect
unfolding assignment_or_call
returns-in_ok-expect c = simp steps (search rules)
