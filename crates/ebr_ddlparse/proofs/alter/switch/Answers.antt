use Rattle.std.proofs.Common.{rules}
use Rattle.ebr_grammar.proofs.Steps.{steps}
use Rattle.ebr_ddlparse.specs.Definitions.{switch}
use Rattle.ebr_ddlparse.proofs.alter.switch.Goals as goal

pub returns-then-eat : goal.returns-then-eat
unfolding switch
returns-then-eat c = simp steps (search rules)

pub returns-in_err-expect : goal.returns-in_err-expect
unfolding switch
returns-in_err-expect c = simp steps (search rules)

pub returns : goal.returns
unfolding switch
returns c = simp steps (search rules)
