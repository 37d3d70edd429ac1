use Rattle.std.proofs.Common.{rules}
use Rattle.ebr_grammar.proofs.Steps.{steps}
use Rattle.ebr_ddlparse.specs.Definitions.{alter_table}
use Rattle.ebr_ddlparse.proofs.alter.alter_table.Goals as goal

pub returns-in_err-table : goal.returns-in_err-table
unfolding alter_table
returns-in_err-table c = simp steps (search rules)

pub returns-in_err-expect : goal.returns-in_err-expect
unfolding alter_table
returns-in_err-expect c = simp steps (search rules)

pub returns : goal.returns
unfolding alter_table
returns c = simp steps (search rules)
