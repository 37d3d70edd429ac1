use Rattle.std.proofs.Common.{rules}
use Rattle.ebr_grammar.proofs.Steps.{steps}
use Rattle.ebr_plparse.specs.Packages.{any_package}
use Rattle.ebr_plparse.proofs.packages.read_any_package.Goals as goal

pub returns-in_err-body : goal.returns-in_err-body
unfolding any_package
returns-in_err-body c = simp steps (search rules)

pub returns-in_ok-body : goal.returns-in_ok-body
unfolding any_package
returns-in_ok-body c = simp steps (search rules)

pub returns-in_err-name : goal.returns-in_err-name
unfolding any_package
returns-in_err-name c = simp steps (search rules)

pub returns-in_ok-name : goal.returns-in_ok-name
unfolding any_package
returns-in_ok-name c = simp steps (search rules)
