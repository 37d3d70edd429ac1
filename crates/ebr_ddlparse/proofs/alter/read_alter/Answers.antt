use Rattle.std.proofs.Common.{rules}
use Rattle.ebr_grammar.proofs.Steps.{steps}
use Rattle.ebr_ddlparse.specs.Definitions.{alter}
use Rattle.ebr_ddlparse.proofs.alter.read_alter.Goals as goal

pub returns-then-eat : goal.returns-then-eat
unfolding alter
returns-then-eat c = simp steps (search rules)

pub returns-then-eat-2 : goal.returns-then-eat-2
unfolding alter
returns-then-eat-2 c = simp steps (search rules)

pub returns-in_err-expect : goal.returns-in_err-expect
unfolding alter
returns-in_err-expect c = simp steps (search rules)

pub returns-in_ok-expect : goal.returns-in_ok-expect
unfolding alter
returns-in_ok-expect c = simp steps (search rules)
