use Rattle.std.proofs.Common.{rules}
use Rattle.ebr_grammar.proofs.Steps.{steps}
use Rattle.ebr_ddlparse.specs.Views.{alias}
use Rattle.ebr_ddlparse.proofs.views.alias.Goals as goal

pub returns-in_err-name : goal.returns-in_err-name
unfolding alias
returns-in_err-name c = simp steps (search rules)

pub returns-in_ok-name : goal.returns-in_ok-name
unfolding alias
returns-in_ok-name c = simp steps (search rules)

pub returns-else-eat : goal.returns-else-eat
unfolding alias
returns-else-eat c = simp steps (search rules)
