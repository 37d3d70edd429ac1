use Rattle.std.proofs.Common.{rules}
use Rattle.ebr_grammar.proofs.Steps.{steps}
use Rattle.ebr_simpleparse.specs.Headings.{range}
use Rattle.ebr_simpleparse.proofs.headings.range.Goals as goal

pub returns-in_err-found : goal.returns-in_err-found
unfolding range
returns-in_err-found c = simp steps (search rules)

pub returns-in_err-high : goal.returns-in_err-high
unfolding range
returns-in_err-high c = simp steps (search rules)

pub returns : goal.returns
unfolding range
returns c = simp steps (search rules)
