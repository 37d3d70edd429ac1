use Rattle.std.proofs.Common.{rules}
use Rattle.ebr_grammar.proofs.Steps.{steps}
use Rattle.ebr_simpleparse.specs.Declarations.{declaration}
use Rattle.ebr_simpleparse.proofs.declarations.read_declaration.Goals as goal

pub returns-then-eat : goal.returns-then-eat
unfolding declaration
returns-then-eat c = simp steps (search rules)

pub returns-then-eat-2 : goal.returns-then-eat-2
unfolding declaration
returns-then-eat-2 c = simp steps (search rules)

pub returns-in_err-name : goal.returns-in_err-name
unfolding declaration
returns-in_err-name c = simp steps (search rules)

pub returns : goal.returns
unfolding declaration
returns c = simp steps (search rules)
