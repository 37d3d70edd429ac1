use Rattle.std.proofs.Common.{rules}
use Rattle.ebr_grammar.proofs.Steps.{steps}
use Rattle.ebr_plparse.specs.Heads.{word_type}
use Rattle.ebr_plparse.proofs.types.word_type.Goals as goal

pub returns-in_err-column : goal.returns-in_err-column
unfolding word_type
returns-in_err-column c = simp steps (search rules)

pub returns-in_ok-column : goal.returns-in_ok-column
unfolding word_type
returns-in_ok-column c = simp steps (search rules)

pub returns-else-eat : goal.returns-else-eat
unfolding word_type
returns-else-eat c = simp steps (search rules)
