use Rattle.std.proofs.Common.{rules}
use Rattle.ebr_grammar.proofs.Steps.{steps}
use Rattle.ebr_ddlparse.specs.Definitions.{alter_trigger}
use Rattle.ebr_ddlparse.proofs.alter.alter_trigger.Goals as goal

pub returns-in_err-name : goal.returns-in_err-name
unfolding alter_trigger
returns-in_err-name c = simp steps (search rules)

pub returns-in_err-enabled : goal.returns-in_err-enabled
unfolding alter_trigger
returns-in_err-enabled c = simp steps (search rules)

pub returns : goal.returns
unfolding alter_trigger
returns c = simp steps (search rules)
