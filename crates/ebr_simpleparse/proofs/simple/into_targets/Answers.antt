use Rattle.std.proofs.Common.{rules}
use Rattle.ebr_grammar.proofs.Steps.{steps}
use Rattle.ebr_simpleparse.specs.Simple.{into_targets}
use Rattle.ebr_simpleparse.proofs.simple.into_targets.Goals as goal

pub returns-in_err-targets : goal.returns-in_err-targets
unfolding into_targets
returns-in_err-targets c = simp steps (search rules)

pub returns-in_err-query : goal.returns-in_err-query
unfolding into_targets
returns-in_err-query c = simp steps (search rules)

pub returns : goal.returns
unfolding into_targets
returns c = simp steps (search rules)
