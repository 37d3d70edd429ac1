use Rattle.std.proofs.Common.{rules}
use Rattle.ebr_grammar.proofs.Steps.{steps}
use Rattle.ebr_plparse.specs.Heads.{other_type}
use Rattle.ebr_plparse.proofs.types.read_other_type.Goals as goal

pub returns-in_err-word : goal.returns-in_err-word
unfolding other_type
returns-in_err-word c = simp steps (search rules)

pub returns-in_ok-word : goal.returns-in_ok-word
unfolding other_type
returns-in_ok-word c = simp steps (search rules)

pub returns-in_err-word-2 : goal.returns-in_err-word-2
unfolding other_type
returns-in_err-word-2 c = simp steps (search rules)

pub returns-in_ok-word-2 : goal.returns-in_ok-word-2
unfolding other_type
returns-in_ok-word-2 c = simp steps (search rules)

pub returns-in_err-word-3 : goal.returns-in_err-word-3
unfolding other_type
returns-in_err-word-3 c = simp steps (search rules)

pub returns-in_ok-word-3 : goal.returns-in_ok-word-3
unfolding other_type
returns-in_ok-word-3 c = simp steps (search rules)

pub returns-in_err-word-4 : goal.returns-in_err-word-4
unfolding other_type
returns-in_err-word-4 c = simp steps (search rules)

pub returns-in_ok-word-4 : goal.returns-in_ok-word-4
unfolding other_type
returns-in_ok-word-4 c = simp steps (search rules)

pub returns-in_err-table : goal.returns-in_err-table
unfolding other_type
returns-in_err-table c = simp steps (search rules)

pub returns-in_ok-table : goal.returns-in_ok-table
unfolding other_type
returns-in_ok-table c = simp steps (search rules)
