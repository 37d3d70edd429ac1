use Rattle.std.proofs.Common.{rules}
use Rattle.ebr_grammar.proofs.Steps.{steps}
use Rattle.ebr_ddlparse.proofs.tables.without_key.Goals as goal

pub returns-in_err-expect : goal.returns-in_err-expect
returns-in_err-expect c = simp steps (search rules)

pub returns : goal.returns
returns c = simp steps (search rules)
