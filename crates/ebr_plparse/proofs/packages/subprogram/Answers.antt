use Rattle.std.proofs.Common.{rules}
use Rattle.ebr_grammar.proofs.Steps.{steps}
use Rattle.ebr_plparse.specs.Packages.{subprogram}
use Rattle.ebr_plparse.proofs.packages.subprogram.Goals as goal

pub returns-in_err-head : goal.returns-in_err-head
unfolding subprogram
returns-in_err-head c = simp steps (search rules)

pub returns-in_err-body : goal.returns-in_err-body
unfolding subprogram
returns-in_err-body c = simp steps (search rules)

pub returns : goal.returns
unfolding subprogram
returns c = simp steps (search rules)
