use Rattle.std.proofs.Common.{rules}
use Rattle.ebr_grammar.proofs.Steps.{steps}
use Rattle.ebr_stmtparse.specs.Statements.{loop_body}
use Rattle.ebr_stmtparse.proofs.grammar.Grammar.loop_body.Goals as goal

pub returns-in_err-found : goal.returns-in_err-found
unfolding loop_body
returns-in_err-found g c = simp steps (search rules)

pub returns-in_err-end_loop : goal.returns-in_err-end_loop
unfolding loop_body
returns-in_err-end_loop g c = simp steps (search rules)

pub returns : goal.returns
unfolding loop_body
returns g c = simp steps (search rules)
