use Rattle.std.proofs.Common.{rules}
use Rattle.ebr_grammar.proofs.Steps.{steps}
use Rattle.ebr_plparse.specs.Triggers.{each_row}
use Rattle.ebr_plparse.proofs.triggers.each_row.Goals as goal

pub returns-in_err-expect : goal.returns-in_err-expect
unfolding each_row
returns-in_err-expect c = simp steps (search rules)

pub returns-in_err-expect-2 : goal.returns-in_err-expect-2
unfolding each_row
returns-in_err-expect-2 c = simp steps (search rules)

pub returns-in_err-expect-3 : goal.returns-in_err-expect-3
unfolding each_row
returns-in_err-expect-3 c = simp steps (search rules)

pub returns : goal.returns
unfolding each_row
returns c = simp steps (search rules)
