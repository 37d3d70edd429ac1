use Rattle.std.proofs.Common.{rules}
use Rattle.ebr_grammar.proofs.Steps.{steps}
use Rattle.ebr_sqlparse.specs.Statements.{apply}
use Rattle.ebr_sqlparse.proofs.statements.apply.Goals as goal

pub returns-in_err-expect : goal.returns-in_err-expect
unfolding apply
returns-in_err-expect c = simp steps (search rules)

pub returns-in_err-expect-2 : goal.returns-in_err-expect-2
unfolding apply
returns-in_err-expect-2 c = simp steps (search rules)

pub returns : goal.returns
unfolding apply
returns c = simp steps (search rules)
