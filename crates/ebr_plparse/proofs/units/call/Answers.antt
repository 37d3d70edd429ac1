use Rattle.std.proofs.Common.{rules}
use Rattle.ebr_grammar.proofs.Steps.{steps}
use Rattle.ebr_plparse.specs.Units.{call}
use Rattle.ebr_plparse.proofs.units.call.Goals as goal

pub returns-in_err-called : goal.returns-in_err-called
unfolding call
returns-in_err-called c = simp steps (search rules)

pub returns-in_err-calling-in-Some : goal.returns-in_err-calling-in-Some
unfolding call
returns-in_err-calling-in-Some c = simp steps (search rules)

pub returns-in_ok-calling-in-Some : goal.returns-in_ok-calling-in-Some
unfolding call
returns-in_ok-calling-in-Some c = simp steps (search rules)

pub returns-in-None : goal.returns-in-None
unfolding call
returns-in-None c = simp steps (search rules)
