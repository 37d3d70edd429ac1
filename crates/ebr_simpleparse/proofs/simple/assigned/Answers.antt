use Rattle.std.proofs.Common.{rules}
use Rattle.ebr_grammar.proofs.Steps.{steps}
use Rattle.ebr_simpleparse.specs.Simple.{assigned}
use Rattle.ebr_simpleparse.proofs.simple.assigned.Goals as goal

pub returns-in_err-expect : goal.returns-in_err-expect
unfolding assigned
returns-in_err-expect c = simp steps (search rules)

pub returns-in_err-value : goal.returns-in_err-value
unfolding assigned
returns-in_err-value c = simp steps (search rules)

pub returns : goal.returns
unfolding assigned
returns c = simp steps (search rules)
