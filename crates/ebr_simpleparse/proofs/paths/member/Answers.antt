use Rattle.std.proofs.Common.{rules}
use Rattle.ebr_grammar.proofs.Steps.{steps}
use Rattle.ebr_simpleparse.specs.Paths.{member}
use Rattle.ebr_simpleparse.proofs.paths.member.Goals as goal

pub returns-in_err-name : goal.returns-in_err-name
unfolding member
returns-in_err-name c = simp steps (search rules)

pub returns-in_ok-name : goal.returns-in_ok-name
unfolding member
returns-in_ok-name c = simp steps (search rules)

pub returns-else-eat : goal.returns-else-eat
unfolding member
returns-else-eat c = simp steps (search rules)
