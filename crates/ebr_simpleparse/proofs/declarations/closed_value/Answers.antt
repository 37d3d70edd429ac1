use Rattle.std.proofs.Common.{rules}
use Rattle.ebr_grammar.proofs.Steps.{steps}
use Rattle.ebr_simpleparse.specs.Declarations.{closed_value}
use Rattle.ebr_simpleparse.proofs.declarations.closed_value.Goals as goal

pub returns-in_err-initial : goal.returns-in_err-initial
unfolding closed_value
returns-in_err-initial c = simp steps (search rules)

pub returns : goal.returns
unfolding closed_value
returns c = simp steps (search rules)
