use Rattle.std.proofs.Common.{rules}
use Rattle.ebr_grammar.proofs.Steps.{steps}
use Rattle.ebr_ddlparse.specs.Tables.{key}
use Rattle.ebr_ddlparse.proofs.tables.key.Goals as goal

pub returns-in_err-key_head : goal.returns-in_err-key_head
unfolding key
returns-in_err-key_head c = simp steps (search rules)

pub returns : goal.returns
unfolding key
returns c = simp steps (search rules)
