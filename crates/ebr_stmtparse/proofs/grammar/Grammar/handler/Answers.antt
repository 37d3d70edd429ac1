use Rattle.std.proofs.Common.{rules}
use Rattle.ebr_grammar.proofs.Steps.{steps}
use Rattle.ebr_stmtparse.specs.Statements.{handler}
use Rattle.ebr_stmtparse.proofs.grammar.Grammar.handler.Goals as goal

pub returns-in_err-caught : goal.returns-in_err-caught
unfolding handler
returns-in_err-caught g c = simp steps (search rules)

pub returns-in_err-expect : goal.returns-in_err-expect
unfolding handler
returns-in_err-expect g c = simp steps (search rules)

pub returns-in_err-statements : goal.returns-in_err-statements
unfolding handler
returns-in_err-statements g c = simp steps (search rules)

pub returns : goal.returns
unfolding handler
returns g c = simp steps (search rules)
