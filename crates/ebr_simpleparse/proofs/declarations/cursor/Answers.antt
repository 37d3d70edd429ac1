use Rattle.std.proofs.Common.{rules}
use Rattle.ebr_grammar.proofs.Steps.{steps}
use Rattle.ebr_simpleparse.specs.Declarations.{cursor}
use Rattle.ebr_simpleparse.proofs.declarations.cursor.Goals as goal

pub returns-in_err-name : goal.returns-in_err-name
unfolding cursor
returns-in_err-name c = simp steps (search rules)

pub returns-in_err-expect : goal.returns-in_err-expect
unfolding cursor
returns-in_err-expect c = simp steps (search rules)

pub returns-in_err-query : goal.returns-in_err-query
unfolding cursor
returns-in_err-query c = simp steps (search rules)

pub returns : goal.returns
unfolding cursor
returns c = simp steps (search rules)
