use Rattle.std.proofs.Common.{rules}
use Rattle.ebr_grammar.proofs.Steps.{steps}
use Rattle.ebr_simpleparse.specs.Simple.{closed_condition}
use Rattle.ebr_simpleparse.proofs.simple.closed_condition.Goals as goal

pub returns-in_err-found : goal.returns-in_err-found
unfolding closed_condition
returns-in_err-found c = simp steps (search rules)

pub returns : goal.returns
unfolding closed_condition
returns c = simp steps (search rules)
