use Rattle.std.proofs.Common.{rules}
use Rattle.ebr_grammar.proofs.Steps.{steps}
use Rattle.ebr_ddlparse.specs.Tables.{column}
use Rattle.ebr_ddlparse.proofs.tables.column.Goals as goal

pub returns-in_err-name : goal.returns-in_err-name
unfolding column
returns-in_err-name c = simp steps (search rules)

pub returns : goal.returns
unfolding column
returns c = simp steps (search rules)
