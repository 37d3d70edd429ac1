use Rattle.std.proofs.Common.{rules}
use Rattle.ebr_grammar.proofs.Steps.{steps}
use Rattle.ebr_simpleparse.specs.Simple.{closed_cursor}
use Rattle.ebr_simpleparse.proofs.simple.closed_cursor.Goals as goal

pub returns-in_err-found : goal.returns-in_err-found
unfolding closed_cursor
returns-in_err-found c = simp steps (search rules)

pub returns : goal.returns
unfolding closed_cursor
returns c = simp steps (search rules)
