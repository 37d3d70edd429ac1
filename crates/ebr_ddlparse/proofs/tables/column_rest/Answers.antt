use Rattle.std.proofs.Common.{rules}
use Rattle.ebr_grammar.proofs.Steps.{steps}
use Rattle.ebr_ddlparse.specs.Tables.{column_rest}
use Rattle.ebr_ddlparse.proofs.tables.column_rest.Goals as goal

pub returns-in_err-ty : goal.returns-in_err-ty
unfolding column_rest
returns-in_err-ty c = simp steps (search rules)

pub returns-in_err-constraints : goal.returns-in_err-constraints
unfolding column_rest
returns-in_err-constraints c = simp steps (search rules)

pub returns : goal.returns
unfolding column_rest
returns c = simp steps (search rules)
