use Rattle.std.proofs.Common.{rules}
use Rattle.ebr_grammar.proofs.Steps.{steps}
use Rattle.ebr_simpleparse.specs.Bounds.{reversed_bound}
use Rattle.ebr_simpleparse.proofs.bounds.reversed_bound.Goals as goal

pub returns-in_err-expect : goal.returns-in_err-expect
unfolding reversed_bound
returns-in_err-expect c = simp steps (search rules)

pub returns-in_err-low : goal.returns-in_err-low
unfolding reversed_bound
returns-in_err-low c = simp steps (search rules)

pub returns-in_err-expect-2 : goal.returns-in_err-expect-2
unfolding reversed_bound
returns-in_err-expect-2 c = simp steps (search rules)

pub returns : goal.returns
unfolding reversed_bound
returns c = simp steps (search rules)
