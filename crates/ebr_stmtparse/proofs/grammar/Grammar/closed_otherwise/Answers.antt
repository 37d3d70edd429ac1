use Rattle.std.proofs.Common.{rules}
use Rattle.ebr_grammar.proofs.Steps.{steps}
use Rattle.ebr_stmtparse.specs.Statements.{closed_otherwise}
use Rattle.ebr_stmtparse.proofs.grammar.Grammar.closed_otherwise.Goals as goal

pub returns-in_err-found : goal.returns-in_err-found
unfolding closed_otherwise
returns-in_err-found g c = simp steps (search rules)

pub returns-in_err-end_if : goal.returns-in_err-end_if
unfolding closed_otherwise
returns-in_err-end_if g c = simp steps (search rules)

pub returns : goal.returns
unfolding closed_otherwise
returns g c = simp steps (search rules)
