use Rattle.std.proofs.Common.{rules}
use Rattle.ebr_grammar.proofs.Steps.{steps}
use Rattle.ebr_stmtparse.specs.Statements.{while_loop}
use Rattle.ebr_stmtparse.proofs.grammar.Grammar.while_loop.Goals as goal

pub returns-in_err-condition : goal.returns-in_err-condition
unfolding while_loop
returns-in_err-condition g c = simp steps (search rules)

pub returns-in_err-expect : goal.returns-in_err-expect
unfolding while_loop
returns-in_err-expect g c = simp steps (search rules)

pub returns-in_err-body : goal.returns-in_err-body
unfolding while_loop
returns-in_err-body g c = simp steps (search rules)

pub returns : goal.returns
unfolding while_loop
returns g c = simp steps (search rules)
