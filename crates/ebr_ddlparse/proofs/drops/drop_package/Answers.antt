use Rattle.std.proofs.Common.{rules}
use Rattle.ebr_grammar.proofs.Steps.{steps}
use Rattle.ebr_ddlparse.specs.Definitions.{drop_package}
use Rattle.ebr_ddlparse.proofs.drops.drop_package.Goals as goal

pub returns-in_err-body : goal.returns-in_err-body
unfolding drop_package
returns-in_err-body c = simp steps (search rules)

pub returns-in_err-name : goal.returns-in_err-name
unfolding drop_package
returns-in_err-name c = simp steps (search rules)

pub returns-in_ok-name : goal.returns-in_ok-name
unfolding drop_package
returns-in_ok-name c = simp steps (search rules)

pub returns-in_err-name-2 : goal.returns-in_err-name-2
unfolding drop_package
returns-in_err-name-2 c = simp steps (search rules)

pub returns-in_ok-name-2 : goal.returns-in_ok-name-2
unfolding drop_package
returns-in_ok-name-2 c = simp steps (search rules)
