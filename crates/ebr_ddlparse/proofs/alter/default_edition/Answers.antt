use Rattle.std.proofs.Common.{rules}
use Rattle.ebr_grammar.proofs.Steps.{steps}
use Rattle.ebr_ddlparse.specs.Definitions.{default_edition}
use Rattle.ebr_ddlparse.proofs.alter.default_edition.Goals as goal

pub returns-in_err-expect : goal.returns-in_err-expect
unfolding default_edition
returns-in_err-expect c = simp steps (search rules)

pub returns-in_err-expect-2 : goal.returns-in_err-expect-2
unfolding default_edition
returns-in_err-expect-2 c = simp steps (search rules)

pub returns-in_err-expect-3 : goal.returns-in_err-expect-3
unfolding default_edition
returns-in_err-expect-3 c = simp steps (search rules)

pub returns-in_err-name : goal.returns-in_err-name
unfolding default_edition
returns-in_err-name c = simp steps (search rules)

pub returns : goal.returns
unfolding default_edition
returns c = simp steps (search rules)
