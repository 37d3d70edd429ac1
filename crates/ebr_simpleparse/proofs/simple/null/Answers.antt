use Rattle.std.proofs.Common.{rules}
use Rattle.ebr_grammar.proofs.Steps.{steps}
use Rattle.ebr_simpleparse.specs.Simple.{null}
use Rattle.ebr_simpleparse.proofs.simple.null.Goals as goal

pub returns-in_err-expect : goal.returns-in_err-expect
unfolding null
returns-in_err-expect c = simp steps (search rules)

pub returns : goal.returns
unfolding null
returns c = simp steps (search rules)
