use Rattle.std.proofs.Common.{rules}
use Rattle.ebr_grammar.proofs.Steps.{steps}
use Rattle.ebr_simpleparse.specs.Paths.{path}
use Rattle.ebr_simpleparse.proofs.paths.read_path.Goals as goal

pub returns-in_err-name : goal.returns-in_err-name
unfolding path
returns-in_err-name c = simp steps (search rules)

pub returns-in_err-member : goal.returns-in_err-member
unfolding path
returns-in_err-member c = simp steps (search rules)

pub returns : goal.returns
unfolding path
returns c = simp steps (search rules)
