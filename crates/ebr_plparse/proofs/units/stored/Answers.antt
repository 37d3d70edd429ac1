use Rattle.std.proofs.Common.{rules}
use Rattle.ebr_grammar.proofs.Steps.{steps}
use Rattle.ebr_plparse.specs.Units.{stored}
use Rattle.ebr_plparse.proofs.units.stored.Goals as goal

pub returns-in_err-read_shared_subprogram : goal.returns-in_err-read_shared_subprogram
unfolding stored
returns-in_err-read_shared_subprogram c = simp steps (search rules)

pub returns-in_ok-read_shared_subprogram : goal.returns-in_ok-read_shared_subprogram
unfolding stored
returns-in_ok-read_shared_subprogram c = simp steps (search rules)

pub returns-then-eat : goal.returns-then-eat
unfolding stored
returns-then-eat c = simp steps (search rules)

pub returns-in_err-read_trigger : goal.returns-in_err-read_trigger
unfolding stored
returns-in_err-read_trigger c = simp steps (search rules)

pub returns-in_ok-read_trigger : goal.returns-in_ok-read_trigger
unfolding stored
returns-in_ok-read_trigger c = simp steps (search rules)

pub returns-in_err-read_editioning_view : goal.returns-in_err-read_editioning_view
unfolding stored
returns-in_err-read_editioning_view c = simp steps (search rules)

pub returns-in_ok-read_editioning_view : goal.returns-in_ok-read_editioning_view
unfolding stored
returns-in_ok-read_editioning_view c = simp steps (search rules)
