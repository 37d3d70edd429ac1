use Rattle.std.proofs.Common.{rules}
use Rattle.ebr_grammar.proofs.Steps.{steps}
use Rattle.ebr_stmtparse.specs.Statements.{branch}
use Rattle.ebr_stmtparse.proofs.grammar.Grammar.branch.Goals as goal

pub returns-in_err-condition : goal.returns-in_err-condition
unfolding branch
returns-in_err-condition g c = simp steps (search rules)

pub returns-in_err-expect : goal.returns-in_err-expect
unfolding branch
returns-in_err-expect g c = simp steps (search rules)

pub returns-in_err-statements : goal.returns-in_err-statements
unfolding branch
returns-in_err-statements g c = simp steps (search rules)

pub returns : goal.returns
unfolding branch
returns g c = simp steps (search rules)
