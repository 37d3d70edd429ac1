use Rattle.std.proofs.Common.{rules}
use Rattle.ebr_grammar.proofs.Steps.{steps}
use Rattle.ebr_sqlparse.specs.Statements.{session}
use Rattle.ebr_sqlparse.proofs.statements.read_session.Goals as goal

pub returns-in_err-expect : goal.returns-in_err-expect
unfolding session
returns-in_err-expect c = simp steps (search rules)

pub returns-in_err-expect-2 : goal.returns-in_err-expect-2
unfolding session
returns-in_err-expect-2 c = simp steps (search rules)

pub returns-in_err-expect-3 : goal.returns-in_err-expect-3
unfolding session
returns-in_err-expect-3 c = simp steps (search rules)

pub returns-in_err-expect-4 : goal.returns-in_err-expect-4
unfolding session
returns-in_err-expect-4 c = simp steps (search rules)

pub returns-in_err-expect-5 : goal.returns-in_err-expect-5
unfolding session
returns-in_err-expect-5 c = simp steps (search rules)

pub returns : goal.returns
unfolding session
returns c = simp steps (search rules)
