use Rattle.std.proofs.Common.{rules}
use Rattle.ebr_grammar.proofs.Steps.{steps}
use Rattle.ebr_plparse.specs.Triggers.{action}
use Rattle.ebr_plparse.proofs.triggers.action.Goals as goal

pub returns-in_err-options : goal.returns-in_err-options
unfolding action
returns-in_err-options c = simp steps (search rules)

pub returns-in_err-body : goal.returns-in_err-body
unfolding action
returns-in_err-body c = simp steps (search rules)

pub returns : goal.returns
unfolding action
returns c = simp steps (search rules)
