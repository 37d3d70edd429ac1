use Rattle.std.proofs.Common.{rules}
use Rattle.ebr_grammar.proofs.Steps.{steps}
use Rattle.ebr_simpleparse.specs.Simple.{last_argument}
use Rattle.ebr_simpleparse.proofs.simple.last_argument.Goals as goal

pub returns-in_err-text : goal.returns-in_err-text
unfolding last_argument
returns-in_err-text c = simp steps (search rules)

pub returns-in_err-expect : goal.returns-in_err-expect
unfolding last_argument
returns-in_err-expect c = simp steps (search rules)

pub returns-in_err-expect-2 : goal.returns-in_err-expect-2
unfolding last_argument
returns-in_err-expect-2 c = simp steps (search rules)

pub returns : goal.returns
unfolding last_argument
returns c = simp steps (search rules)
