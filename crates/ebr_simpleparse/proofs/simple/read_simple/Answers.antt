use Rattle.std.proofs.Common.{rules}
use Rattle.ebr_grammar.proofs.Steps.{steps}
use Rattle.ebr_simpleparse.specs.Simple.{simple}
use Rattle.ebr_simpleparse.proofs.simple.read_simple.Goals as goal

pub returns-in_err-closed_sql : goal.returns-in_err-closed_sql
unfolding simple
returns-in_err-closed_sql c = simp steps (search rules)

pub returns-in_ok-closed_sql : goal.returns-in_ok-closed_sql
unfolding simple
returns-in_ok-closed_sql c = simp steps (search rules)

pub returns-in_err-closed_cursor : goal.returns-in_err-closed_cursor
unfolding simple
returns-in_err-closed_cursor c = simp steps (search rules)

pub returns-in_ok-closed_cursor : goal.returns-in_ok-closed_cursor
unfolding simple
returns-in_ok-closed_cursor c = simp steps (search rules)

pub returns-then-sees_any-3 : goal.returns-then-sees_any-3
unfolding simple
returns-then-sees_any-3 c = simp steps (search rules)

pub returns-then-eat : goal.returns-then-eat
unfolding simple
returns-then-eat c = simp steps (search rules)

pub returns-then-eat-2 : goal.returns-then-eat-2
unfolding simple
returns-then-eat-2 c = simp steps (search rules)

pub returns-then-eat-3 : goal.returns-then-eat-3
unfolding simple
returns-then-eat-3 c = simp steps (search rules)

pub returns-then-eat-4 : goal.returns-then-eat-4
unfolding simple
returns-then-eat-4 c = simp steps (search rules)

pub returns-else-eat-4 : goal.returns-else-eat-4
unfolding simple
returns-else-eat-4 c = simp steps (search rules)
