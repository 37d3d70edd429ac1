use Rattle.std.proofs.Common.{rules}
use Rattle.ebr_grammar.proofs.Steps.{steps}
use Rattle.ebr_plparse.specs.Heads.{head}
use Rattle.ebr_plparse.proofs.heads.read_head.Goals as goal

pub returns-then-eat : goal.returns-then-eat
unfolding head
returns-then-eat c = simp steps (search rules)

pub returns-in_err-expect : goal.returns-in_err-expect
unfolding head
returns-in_err-expect c = simp steps (search rules)

pub returns-in_ok-expect : goal.returns-in_ok-expect
unfolding head
returns-in_ok-expect c = simp steps (search rules)
