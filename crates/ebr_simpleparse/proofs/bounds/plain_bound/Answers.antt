use Rattle.std.proofs.Common.{rules}
use Rattle.ebr_grammar.proofs.Steps.{steps}
use Rattle.ebr_simpleparse.specs.Bounds.{plain_bound}
use Rattle.ebr_simpleparse.proofs.bounds.plain_bound.Goals as goal

pub returns-in_err-low : goal.returns-in_err-low
unfolding plain_bound
returns-in_err-low c = simp steps (search rules)

pub returns-in_err-expect : goal.returns-in_err-expect
unfolding plain_bound
returns-in_err-expect c = simp steps (search rules)

pub returns : goal.returns
unfolding plain_bound
returns c = simp steps (search rules)
