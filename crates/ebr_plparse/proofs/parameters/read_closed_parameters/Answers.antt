use Rattle.std.proofs.Common.{rules}
use Rattle.ebr_grammar.proofs.Steps.{steps}
use Rattle.ebr_plparse.specs.Heads.{closed_parameters}
use Rattle.ebr_plparse.proofs.parameters.read_closed_parameters.Goals as goal

pub returns-in_err-found : goal.returns-in_err-found
unfolding closed_parameters
returns-in_err-found c = simp steps (search rules)

pub returns-in_err-expect : goal.returns-in_err-expect
unfolding closed_parameters
returns-in_err-expect c = simp steps (search rules)

pub returns : goal.returns
unfolding closed_parameters
returns c = simp steps (search rules)
