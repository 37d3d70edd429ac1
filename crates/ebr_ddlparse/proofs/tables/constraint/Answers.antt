use Rattle.std.proofs.Common.{rules}
use Rattle.ebr_grammar.proofs.Steps.{steps}
use Rattle.ebr_ddlparse.specs.Tables.{constraint}
use Rattle.ebr_ddlparse.proofs.tables.constraint.Goals as goal

pub returns-in_err-expect : goal.returns-in_err-expect
unfolding constraint
returns-in_err-expect c = simp steps (search rules)

pub returns-in_ok-expect : goal.returns-in_ok-expect
unfolding constraint
returns-in_ok-expect c = simp steps (search rules)

pub returns-in_err-expect-2 : goal.returns-in_err-expect-2
unfolding constraint
returns-in_err-expect-2 c = simp steps (search rules)

pub returns-in_err-expect-3 : goal.returns-in_err-expect-3
unfolding constraint
returns-in_err-expect-3 c = simp steps (search rules)

pub returns-in_ok-expect-3 : goal.returns-in_ok-expect-3
unfolding constraint
returns-in_ok-expect-3 c = simp steps (search rules)
