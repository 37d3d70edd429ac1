use Rattle.std.proofs.Common.{rules}
use Rattle.ebr_grammar.proofs.Steps.{steps}
use Rattle.ebr_ddlparse.specs.Types.{unit}
use Rattle.ebr_ddlparse.proofs.types.unit.Goals as goal

pub returns-then-eat : goal.returns-then-eat
unfolding unit
returns-then-eat c = simp steps (search rules)

pub returns-then-eat-2 : goal.returns-then-eat-2
unfolding unit
returns-then-eat-2 c = simp steps (search rules)

pub returns : goal.returns
unfolding unit
returns c = simp steps (search rules)
