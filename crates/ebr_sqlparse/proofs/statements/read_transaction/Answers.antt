use Rattle.std.proofs.Common.{rules}
use Rattle.ebr_grammar.proofs.Steps.{steps}
use Rattle.ebr_sqlparse.specs.Statements.{transaction}
use Rattle.ebr_sqlparse.proofs.statements.read_transaction.Goals as goal

pub returns-then-eat : goal.returns-then-eat
unfolding transaction
returns-then-eat c = simp steps (search rules)

pub returns-then-eat-2 : goal.returns-then-eat-2
unfolding transaction
returns-then-eat-2 c = simp steps (search rules)

pub returns-in_err-expect : goal.returns-in_err-expect
unfolding transaction
returns-in_err-expect c = simp steps (search rules)

pub returns-in_err-name : goal.returns-in_err-name
unfolding transaction
returns-in_err-name c = simp steps (search rules)

pub returns : goal.returns
unfolding transaction
returns c = simp steps (search rules)
