use Rattle.std.proofs.Common.{rules}
use Rattle.ebr_grammar.proofs.Steps.{steps}
use Rattle.ebr_ddlparse.specs.Definitions.{dropped}
use Rattle.ebr_ddlparse.proofs.drops.read_drop.Goals as goal

pub returns-then-eat : goal.returns-then-eat
unfolding dropped
returns-then-eat c = simp steps (search rules)

pub returns-in_err-name : goal.returns-in_err-name
unfolding dropped
returns-in_err-name c = simp steps (search rules)

pub returns-in_ok-name : goal.returns-in_ok-name
unfolding dropped
returns-in_ok-name c = simp steps (search rules)

pub returns-then-eat-3 : goal.returns-then-eat-3
unfolding dropped
returns-then-eat-3 c = simp steps (search rules)

pub returns-then-eat-4 : goal.returns-then-eat-4
unfolding dropped
returns-then-eat-4 c = simp steps (search rules)

pub returns-then-eat-5 : goal.returns-then-eat-5
unfolding dropped
returns-then-eat-5 c = simp steps (search rules)

pub returns-then-eat-6 : goal.returns-then-eat-6
unfolding dropped
returns-then-eat-6 c = simp steps (search rules)

pub returns-in_err-expect : goal.returns-in_err-expect
unfolding dropped
returns-in_err-expect c = simp steps (search rules)

pub returns-in_ok-expect : goal.returns-in_ok-expect
unfolding dropped
returns-in_ok-expect c = simp steps (search rules)
