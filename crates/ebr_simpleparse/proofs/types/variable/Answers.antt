use Rattle.std.proofs.Common.{rules}
use Rattle.ebr_grammar.proofs.Steps.{steps}
use Rattle.ebr_simpleparse.specs.Types.{variable}
use Rattle.ebr_simpleparse.proofs.types.variable.Goals as goal

pub returns-in_err-ty : goal.returns-in_err-ty
unfolding variable
returns-in_err-ty c = simp steps (search rules)

pub returns : goal.returns
unfolding variable
returns c = simp steps (search rules)
