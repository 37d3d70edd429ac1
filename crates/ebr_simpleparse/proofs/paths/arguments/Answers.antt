use Rattle.std.proofs.Common.{rules}
use Rattle.ebr_grammar.proofs.Steps.{steps}
use Rattle.ebr_simpleparse.specs.Paths.{arguments}
use Rattle.ebr_simpleparse.proofs.paths.arguments.Goals as goal

pub returns-then-eat : goal.returns-then-eat
unfolding arguments
returns-then-eat c = simp steps (search rules)

pub returns-in_err-found : goal.returns-in_err-found
unfolding arguments
returns-in_err-found c = simp steps (search rules)

pub returns : goal.returns
unfolding arguments
returns c = simp steps (search rules)
