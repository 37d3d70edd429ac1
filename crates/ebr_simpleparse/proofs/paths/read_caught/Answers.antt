use Rattle.std.proofs.Common.{rules}
use Rattle.ebr_grammar.proofs.Steps.{steps}
use Rattle.ebr_simpleparse.specs.Paths.{caught}
use Rattle.ebr_simpleparse.proofs.paths.read_caught.Goals as goal

pub returns-in_err-paths : goal.returns-in_err-paths
unfolding caught
returns-in_err-paths c = simp steps (search rules)

pub returns : goal.returns
unfolding caught
returns c = simp steps (search rules)
