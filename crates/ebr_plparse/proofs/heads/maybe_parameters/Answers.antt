use Rattle.std.proofs.Common.{rules}
use Rattle.ebr_grammar.proofs.Steps.{steps}
use Rattle.ebr_plparse.specs.Heads.{maybe_parameters}
use Rattle.ebr_plparse.proofs.heads.maybe_parameters.Goals as goal

pub returns-then-eat : goal.returns-then-eat
unfolding maybe_parameters
returns-then-eat c = simp steps (search rules)

pub returns-else-eat : goal.returns-else-eat
unfolding maybe_parameters
returns-else-eat c = simp steps (search rules)
