use Rattle.std.proofs.Common.{rules}
use Rattle.ebr_grammar.proofs.Steps.{steps}
use Rattle.ebr_simpleparse.specs.Simple.{select_into}
use Rattle.ebr_simpleparse.proofs.simple.select_into.Goals as goal

pub returns-in_err-list : goal.returns-in_err-list
unfolding select_into
returns-in_err-list c = simp steps (search rules)

pub returns-in_err-expect : goal.returns-in_err-expect
unfolding select_into
returns-in_err-expect c = simp steps (search rules)

pub returns : goal.returns
unfolding select_into
returns c = simp steps (search rules)
