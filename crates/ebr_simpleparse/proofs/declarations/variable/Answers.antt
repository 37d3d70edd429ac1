use Rattle.std.proofs.Common.{rules}
use Rattle.ebr_grammar.proofs.Steps.{steps}
use Rattle.ebr_simpleparse.specs.Declarations.{variable}
use Rattle.ebr_simpleparse.proofs.declarations.variable.Goals as goal

pub returns-in_err-found : goal.returns-in_err-found
unfolding variable
returns-in_err-found c = simp steps (search rules)

pub returns-in_err-initial : goal.returns-in_err-initial
unfolding variable
returns-in_err-initial c = simp steps (search rules)

pub returns : goal.returns
unfolding variable
returns c = simp steps (search rules)
