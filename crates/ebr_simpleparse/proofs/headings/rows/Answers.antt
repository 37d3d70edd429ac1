use Rattle.std.proofs.Common.{rules}
use Rattle.ebr_grammar.proofs.Steps.{steps}
use Rattle.ebr_simpleparse.specs.Headings.{rows}
use Rattle.ebr_simpleparse.proofs.headings.rows.Goals as goal

pub returns-in_err-from : goal.returns-in_err-from
unfolding rows
returns-in_err-from c = simp steps (search rules)

pub returns-in_err-expect : goal.returns-in_err-expect
unfolding rows
returns-in_err-expect c = simp steps (search rules)

pub returns : goal.returns
unfolding rows
returns c = simp steps (search rules)
