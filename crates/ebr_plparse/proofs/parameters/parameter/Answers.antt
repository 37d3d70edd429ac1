use Rattle.std.proofs.Common.{rules}
use Rattle.ebr_grammar.proofs.Steps.{steps}
use Rattle.ebr_plparse.specs.Heads.{parameter}
use Rattle.ebr_plparse.proofs.parameters.parameter.Goals as goal

pub returns-in_err-name : goal.returns-in_err-name
unfolding parameter
returns-in_err-name c = simp steps (search rules)

pub returns-in_err-passing : goal.returns-in_err-passing
unfolding parameter
returns-in_err-passing c = simp steps (search rules)

pub returns : goal.returns
unfolding parameter
returns c = simp steps (search rules)
