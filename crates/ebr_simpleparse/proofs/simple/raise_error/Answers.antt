use Rattle.std.proofs.Common.{rules}
use Rattle.ebr_grammar.proofs.Steps.{steps}
use Rattle.ebr_simpleparse.specs.Simple.{raise_error}
use Rattle.ebr_simpleparse.proofs.simple.raise_error.Goals as goal

pub returns-in_err-code : goal.returns-in_err-code
unfolding raise_error
returns-in_err-code c = simp steps (search rules)

pub returns-in_err-text : goal.returns-in_err-text
unfolding raise_error
returns-in_err-text c = simp steps (search rules)

pub returns : goal.returns
unfolding raise_error
returns c = simp steps (search rules)
