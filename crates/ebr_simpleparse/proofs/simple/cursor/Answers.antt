use Rattle.std.proofs.Common.{rules}
use Rattle.ebr_grammar.proofs.Steps.{steps}
use Rattle.ebr_simpleparse.specs.Simple.{cursor}
use Rattle.ebr_simpleparse.proofs.simple.cursor.Goals as goal

pub returns-in_err-name : goal.returns-in_err-name
unfolding cursor
returns-in_err-name c = simp steps (search rules)

pub returns-in_ok-name : goal.returns-in_ok-name
unfolding cursor
returns-in_ok-name c = simp steps (search rules)

pub returns-then-eat-2 : goal.returns-then-eat-2
unfolding cursor
returns-then-eat-2 c = simp steps (search rules)

pub returns-in_err-expect : goal.returns-in_err-expect
unfolding cursor
returns-in_err-expect c = simp steps (search rules)

pub returns-in_err-name-2 : goal.returns-in_err-name-2
unfolding cursor
returns-in_err-name-2 c = simp steps (search rules)

pub returns-in_ok-name-2 : goal.returns-in_ok-name-2
unfolding cursor
returns-in_ok-name-2 c = simp steps (search rules)
