use Rattle.std.proofs.Common.{rules}
use Rattle.ebr_grammar.proofs.Steps.{steps}
use Rattle.ebr_simpleparse.specs.Paths.{targets}
use Rattle.ebr_simpleparse.proofs.paths.read_targets.Goals as goal

pub returns-in_err-first : goal.returns-in_err-first
unfolding targets
returns-in_err-first c = simp steps (search rules)

pub returns : goal.returns
unfolding targets
returns c = simp steps (search rules)
