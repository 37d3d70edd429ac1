use Rattle.std.proofs.Common.{rules}
use Rattle.ebr_grammar.proofs.Steps.{steps}
use Rattle.ebr_simpleparse.specs.Simple.{raised}
use Rattle.ebr_simpleparse.proofs.simple.raised.Goals as goal

pub returns-then-eat : goal.returns-then-eat
unfolding raised
returns-then-eat c = simp steps (search rules)

pub returns-in_err-exception : goal.returns-in_err-exception
unfolding raised
returns-in_err-exception c = simp steps (search rules)

pub returns-in_err-expect : goal.returns-in_err-expect
unfolding raised
returns-in_err-expect c = simp steps (search rules)

pub returns : goal.returns
unfolding raised
returns c = simp steps (search rules)
