use Rattle.std.proofs.Common.{rules}
use Rattle.ebr_grammar.proofs.Steps.{steps}
use Rattle.ebr_plparse.specs.Productions.{is_or_as}
use Rattle.ebr_plparse.proofs.packages.is_or_as.Goals as goal

pub returns-then-eat : goal.returns-then-eat
unfolding is_or_as
returns-then-eat c = simp steps (search rules)

pub returns-in_err-expect : goal.returns-in_err-expect
unfolding is_or_as
returns-in_err-expect c = simp steps (search rules)

pub returns : goal.returns
unfolding is_or_as
returns c = simp steps (search rules)
