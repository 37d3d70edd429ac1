use Rattle.std.proofs.Common.{rules}
use Rattle.ebr_grammar.proofs.Steps.{steps}
use Rattle.ebr_simpleparse.specs.Simple.{jump}
use Rattle.ebr_simpleparse.proofs.simple.jump.Goals as goal

pub returns-in_err-returned : goal.returns-in_err-returned
unfolding jump
returns-in_err-returned c = simp steps (search rules)

pub returns-in_ok-returned : goal.returns-in_ok-returned
unfolding jump
returns-in_ok-returned c = simp steps (search rules)

pub returns-in_err-raised : goal.returns-in_err-raised
unfolding jump
returns-in_err-raised c = simp steps (search rules)

pub returns-in_ok-raised : goal.returns-in_ok-raised
unfolding jump
returns-in_ok-raised c = simp steps (search rules)

pub returns-in_err-closed_condition : goal.returns-in_err-closed_condition
unfolding jump
returns-in_err-closed_condition c = simp steps (search rules)

pub returns-in_ok-closed_condition : goal.returns-in_ok-closed_condition
unfolding jump
returns-in_ok-closed_condition c = simp steps (search rules)

pub returns-in_err-expect : goal.returns-in_err-expect
unfolding jump
returns-in_err-expect c = simp steps (search rules)

pub returns-in_err-closed_condition-2 : goal.returns-in_err-closed_condition-2
unfolding jump
returns-in_err-closed_condition-2 c = simp steps (search rules)

pub returns-in_ok-closed_condition-2 : goal.returns-in_ok-closed_condition-2
unfolding jump
returns-in_ok-closed_condition-2 c = simp steps (search rules)
