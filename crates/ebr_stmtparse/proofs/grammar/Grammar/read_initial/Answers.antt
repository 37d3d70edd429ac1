use Rattle.std.proofs.Common.{rules}
use Rattle.ebr_grammar.proofs.Steps.{steps}
use Rattle.ebr_stmtparse.specs.Statements.{initial}
use Rattle.ebr_stmtparse.proofs.grammar.Grammar.read_initial.Goals as goal

pub returns-in_err-expect : goal.returns-in_err-expect
unfolding initial
returns-in_err-expect g c = simp steps (search rules)

pub returns-in_err-statements : goal.returns-in_err-statements
unfolding initial
returns-in_err-statements g c = simp steps (search rules)

pub returns-in_err-handlers : goal.returns-in_err-handlers
unfolding initial
returns-in_err-handlers g c = simp steps (search rules)

pub returns : goal.returns
unfolding initial
returns g c = simp steps (search rules)
