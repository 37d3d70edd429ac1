use Rattle.std.proofs.Common.{rules}
use Rattle.ebr_grammar.proofs.Steps.{steps}
use Rattle.ebr_plparse.specs.Triggers.{trigger_rest}
use Rattle.ebr_plparse.proofs.triggers.trigger_rest.Goals as goal

pub returns-in_err-clause : goal.returns-in_err-clause
unfolding trigger_rest
returns-in_err-clause c = simp steps (search rules)

pub returns-in_err-action : goal.returns-in_err-action
unfolding trigger_rest
returns-in_err-action c = simp steps (search rules)

pub returns : goal.returns
unfolding trigger_rest
returns c = simp steps (search rules)
