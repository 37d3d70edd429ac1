use Rattle.std.proofs.Common.{rules}
use Rattle.ebr_grammar.proofs.Steps.{steps}
use Rattle.ebr_plparse.specs.Heads.{column_of}
use Rattle.ebr_plparse.proofs.types.read_column_of.Goals as goal

pub returns-in_err-column : goal.returns-in_err-column
unfolding column_of
returns-in_err-column c = simp steps (search rules)

pub returns-in_err-expect : goal.returns-in_err-expect
unfolding column_of
returns-in_err-expect c = simp steps (search rules)

pub returns-in_err-expect-2 : goal.returns-in_err-expect-2
unfolding column_of
returns-in_err-expect-2 c = simp steps (search rules)

pub returns : goal.returns
unfolding column_of
returns c = simp steps (search rules)
