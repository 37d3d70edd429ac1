use Rattle.std.proofs.Common.{rules}
use Rattle.ebr_grammar.proofs.Steps.{steps}
use Rattle.ebr_stmtparse.specs.Statements.{statement}
use Rattle.ebr_stmtparse.proofs.grammar.Grammar.statement.Goals as goal

pub returns-then-eat : goal.returns-then-eat
unfolding statement
returns-then-eat g c = simp steps (search rules)

pub returns-in_err-loop_body : goal.returns-in_err-loop_body
unfolding statement
returns-in_err-loop_body g c = simp steps (search rules)

pub returns-in_ok-loop_body : goal.returns-in_ok-loop_body
unfolding statement
returns-in_ok-loop_body g c = simp steps (search rules)

pub returns-then-eat-3 : goal.returns-then-eat-3
unfolding statement
returns-then-eat-3 g c = simp steps (search rules)

pub returns-then-eat-4 : goal.returns-then-eat-4
unfolding statement
returns-then-eat-4 g c = simp steps (search rules)

pub returns-then-sees_any : goal.returns-then-sees_any
unfolding statement
returns-then-sees_any g c = simp steps (search rules)

pub returns-else-sees_any : goal.returns-else-sees_any
unfolding statement
returns-else-sees_any g c = simp steps (search rules)
