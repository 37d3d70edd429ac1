use Rattle.std.proofs.Common.{rules}
use Rattle.ebr_grammar.proofs.Steps.{steps}
use Rattle.ebr_plparse.specs.Triggers.{trigger_options}
use Rattle.ebr_plparse.proofs.triggers.trigger_options.Goals as goal

pub returns-in_err-crossedition : goal.returns-in_err-crossedition
unfolding trigger_options
returns-in_err-crossedition c = simp steps (search rules)

pub returns-in_err-enabled : goal.returns-in_err-enabled
unfolding trigger_options
returns-in_err-enabled c = simp steps (search rules)

pub returns : goal.returns
unfolding trigger_options
returns c = simp steps (search rules)
