use Rattle.std.proofs.Common.{rules}
use Rattle.ebr_grammar.proofs.Steps.{steps}
use Rattle.ebr_ddlparse.specs.Definitions.{create_table}
use Rattle.ebr_ddlparse.proofs.create.create_table.Goals as goal

pub returns-in_err-name : goal.returns-in_err-name
unfolding create_table
returns-in_err-name c = simp steps (search rules)

pub returns-in_err-expect : goal.returns-in_err-expect
unfolding create_table
returns-in_err-expect c = simp steps (search rules)

pub returns-in_err-items : goal.returns-in_err-items
unfolding create_table
returns-in_err-items c = simp steps (search rules)

pub returns : goal.returns
unfolding create_table
returns c = simp steps (search rules)
