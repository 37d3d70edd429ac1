use Rattle.std.proofs.Common.{rules}
use Rattle.ebr_grammar.proofs.Steps.{steps}
use Rattle.ebr_simpleparse.specs.Headings.{high_bound}
use Rattle.ebr_simpleparse.proofs.headings.high_bound.Goals as goal

pub returns-in_err-high : goal.returns-in_err-high
unfolding high_bound
returns-in_err-high c = simp steps (search rules)

pub returns : goal.returns
unfolding high_bound
returns c = simp steps (search rules)
