use Rattle.std.proofs.Common.{rules}
use Rattle.ebr_grammar.proofs.Steps.{steps}
use Rattle.ebr_ddlparse.specs.Views.{item}
use Rattle.ebr_ddlparse.proofs.views.item.Goals as goal

pub returns-in_err-column : goal.returns-in_err-column
unfolding item
returns-in_err-column c = simp steps (search rules)

pub returns-in_err-alias : goal.returns-in_err-alias
unfolding item
returns-in_err-alias c = simp steps (search rules)

pub returns : goal.returns
unfolding item
returns c = simp steps (search rules)
