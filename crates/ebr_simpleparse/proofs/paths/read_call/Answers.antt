use Rattle.std.proofs.Common.{rules}
use Rattle.ebr_grammar.proofs.Steps.{steps}
use Rattle.ebr_simpleparse.specs.Paths.{call}
use Rattle.ebr_simpleparse.proofs.paths.read_call.Goals as goal

pub returns-in_err-path : goal.returns-in_err-path
unfolding call
returns-in_err-path c = simp steps (search rules)

pub returns-in_err-arguments : goal.returns-in_err-arguments
unfolding call
returns-in_err-arguments c = simp steps (search rules)

pub returns : goal.returns
unfolding call
returns c = simp steps (search rules)
