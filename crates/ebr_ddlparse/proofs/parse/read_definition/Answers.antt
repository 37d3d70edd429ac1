use Rattle.std.proofs.Common.{rules}
use Rattle.ebr_grammar.proofs.Steps.{steps}
use Rattle.ebr_ddlparse.specs.Definitions.{definition}
use Rattle.ebr_ddlparse.proofs.parse.read_definition.Goals as goal

pub returns-then-eat : goal.returns-then-eat
unfolding definition
returns-then-eat c = simp steps (search rules)

pub returns-then-eat-2 : goal.returns-then-eat-2
unfolding definition
returns-then-eat-2 c = simp steps (search rules)

pub returns-in_err-expect : goal.returns-in_err-expect
unfolding definition
returns-in_err-expect c = simp steps (search rules)

pub returns-in_ok-expect : goal.returns-in_ok-expect
unfolding definition
returns-in_ok-expect c = simp steps (search rules)
