use Rattle.std.proofs.Common.{rules}
use Rattle.ebr_grammar.proofs.Steps.{steps}
use Rattle.ebr_simpleparse.specs.Paths.{target}
use Rattle.ebr_simpleparse.proofs.paths.target.Goals as goal

pub returns-in_err-read_new_column : goal.returns-in_err-read_new_column
unfolding target
returns-in_err-read_new_column c = simp steps (search rules)

pub returns-in_ok-read_new_column : goal.returns-in_ok-read_new_column
unfolding target
returns-in_ok-read_new_column c = simp steps (search rules)

pub returns-in_err-read_path : goal.returns-in_err-read_path
unfolding target
returns-in_err-read_path c = simp steps (search rules)

pub returns-in_ok-read_path : goal.returns-in_ok-read_path
unfolding target
returns-in_ok-read_path c = simp steps (search rules)
