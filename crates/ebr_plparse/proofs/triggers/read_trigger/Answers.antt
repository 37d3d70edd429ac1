use Rattle.std.proofs.Common.{rules}
use Rattle.ebr_grammar.proofs.Steps.{steps}
use Rattle.ebr_plparse.specs.Triggers.{trigger}
use Rattle.ebr_plparse.proofs.triggers.read_trigger.Goals as goal

pub returns-in_err-name : goal.returns-in_err-name
unfolding trigger
returns-in_err-name c = simp steps (search rules)

pub returns : goal.returns
unfolding trigger
returns c = simp steps (search rules)
