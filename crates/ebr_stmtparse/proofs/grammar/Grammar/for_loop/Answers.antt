use Rattle.std.proofs.Common.{rules}
use Rattle.ebr_grammar.proofs.Steps.{steps}
use Rattle.ebr_stmtparse.specs.Statements.{for_loop}
use Rattle.ebr_stmtparse.proofs.grammar.Grammar.for_loop.Goals as goal

pub returns-in_err-name : goal.returns-in_err-name
unfolding for_loop
returns-in_err-name g c = simp steps (search rules)

pub returns-in_err-expect : goal.returns-in_err-expect
unfolding for_loop
returns-in_err-expect g c = simp steps (search rules)

pub returns : goal.returns
unfolding for_loop
returns g c = simp steps (search rules)
