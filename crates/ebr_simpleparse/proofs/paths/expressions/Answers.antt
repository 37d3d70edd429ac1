use Rattle.std.proofs.Common.{rules}
use Rattle.ebr_grammar.proofs.Steps.{steps}
use Rattle.ebr_simpleparse.specs.Paths.{expressions}
use Rattle.ebr_simpleparse.proofs.paths.expressions.Goals as goal

pub returns-in_err-first : goal.returns-in_err-first
unfolding expressions
returns-in_err-first c = simp steps (search rules)

pub returns : goal.returns
unfolding expressions
returns c = simp steps (search rules)
