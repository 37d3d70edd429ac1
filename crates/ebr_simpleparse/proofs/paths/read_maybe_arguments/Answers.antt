use Rattle.std.proofs.Common.{rules}
use Rattle.ebr_grammar.proofs.Steps.{steps}
use Rattle.ebr_simpleparse.specs.Paths.{maybe_arguments}
use Rattle.ebr_simpleparse.proofs.paths.read_maybe_arguments.Goals as goal

pub returns-in_err-arguments : goal.returns-in_err-arguments
unfolding maybe_arguments
returns-in_err-arguments c = simp steps (search rules)

pub returns-in_ok-arguments : goal.returns-in_ok-arguments
unfolding maybe_arguments
returns-in_ok-arguments c = simp steps (search rules)

pub returns-else-eat : goal.returns-else-eat
unfolding maybe_arguments
returns-else-eat c = simp steps (search rules)
