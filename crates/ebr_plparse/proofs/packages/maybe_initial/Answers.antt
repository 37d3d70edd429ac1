use Rattle.std.proofs.Common.{rules}
use Rattle.ebr_grammar.proofs.Steps.{steps}
use Rattle.ebr_plparse.specs.Packages.{maybe_initial}
use Rattle.ebr_plparse.proofs.packages.maybe_initial.Goals as goal

pub returns-in_err-initial : goal.returns-in_err-initial
unfolding maybe_initial
returns-in_err-initial c = simp steps (search rules)

pub returns-in_ok-initial : goal.returns-in_ok-initial
unfolding maybe_initial
returns-in_ok-initial c = simp steps (search rules)

pub returns-else-sees : goal.returns-else-sees
unfolding maybe_initial
returns-else-sees c = simp steps (search rules)
