use Rattle.std.proofs.Common.{rules}
use Rattle.ebr_grammar.proofs.Steps.{steps}
use Rattle.ebr_simpleparse.specs.Declarations.{pragma}
use Rattle.ebr_simpleparse.proofs.declarations.pragma.Goals as goal

pub returns-then-eat : goal.returns-then-eat
unfolding pragma
returns-then-eat c = simp steps (search rules)

pub returns-in_err-expect : goal.returns-in_err-expect
unfolding pragma
returns-in_err-expect c = simp steps (search rules)

pub returns-in_err-expect-2 : goal.returns-in_err-expect-2
unfolding pragma
returns-in_err-expect-2 c = simp steps (search rules)

pub returns : goal.returns
unfolding pragma
returns c = simp steps (search rules)
