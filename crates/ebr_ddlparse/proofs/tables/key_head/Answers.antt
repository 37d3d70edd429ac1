use Rattle.std.proofs.Common.{rules}
use Rattle.ebr_grammar.proofs.Steps.{steps}
use Rattle.ebr_ddlparse.specs.Tables.{key_head}
use Rattle.ebr_ddlparse.proofs.tables.key_head.Goals as goal

pub returns-in_err-_name : goal.returns-in_err-_name
unfolding key_head
returns-in_err-_name c = simp steps (search rules)

pub returns-in_ok-_name : goal.returns-in_ok-_name
unfolding key_head
returns-in_ok-_name c = simp steps (search rules)

pub returns-else-eat : goal.returns-else-eat
unfolding key_head
returns-else-eat c = simp steps (search rules)
